-- What the code reads of a clause and of a cache: its range, and what it says. Assumes nothing.
use Rattle.std.specs.Prelude.{None}
use mathlib.Core.Bool.{Bool, true, false, cond}
use mathlib.Core.List.{List}
use mathlib.Core.Path.{◌≡◌}
use Prim.Native.Nat.{ℕ, ◌≤◌, ◌<◌}
use native.Mathlib.Omega.{arith}
use borrow.Author.Tests.{lt-ltb, le-ltb, eq-eqb}
use lib.Dec.{T, ltb}
use Rattle.meaning.specs.Standing.{cache_by, cache_of, of_clause}
use Rattle.store.specs.declared.area.Area.{Area}
use Rattle.store.specs.Area.{◌upto◌, at}
use Rattle.store.specs.Codes.{dirty}
use Rattle.store.specs.Layout.{cache_states, clause_conditions, clause_count, clause_parents, clause_requirements, table}
use Rattle.store.specs.Limits.{clauses, disjunctions, last_requirement, last_variable, requirements, variables}
use Rattle.store.specs.Shape.{Sound, listed}

-- a word of a clause that there is, and of one that there is not
module _ (a : Area) (w : List ℕ) (k : ℕ) where
  pub clause-word : k < at clause_count 0 w → of_clause a w k ≡ at a k w
  unfolding of_clause
  clause-word h = rw (lt-ltb k (at clause_count 0 w) h)

  pub clause-none : at clause_count 0 w ≤ k → of_clause a w k ≡ 0
  unfolding of_clause
  clause-none h = rw (le-ltb k (at clause_count 0 w) h)

-- it is in its area's range
pub clause-most : (a : Area) (m : ℕ) (w : List ℕ) (k : ℕ) → T (listed (a upto m) table) → Sound w → of_clause a w k ≤ m
unfolding of_clause
clause-most a m w k t h = go (ltb k (at clause_count 0 w))
  where
    go : (b : Bool) → cond b (at a k w) 0 ≤ m
    go true = h.ranges a m t k
    go false = omega arith

pub key_below : (w : List ℕ) (k : ℕ) → Sound w → of_clause clause_requirements w k < requirements
key_below w k h = omega (arith, clause-most clause_requirements last_requirement w k tt h)

-- the same of the numbers that the code has read
module _ (w : List ℕ) (h : Sound w) where
  pub clause-inside : (k : ℕ) → k < at clause_count 0 w → k < clauses
  clause-inside k l = omega (arith, h.ranges clause_count clauses tt 0)

  pub parent-variable : (k x : ℕ) → x ≡ at clause_parents k w → x < variables
  parent-variable k x e = let m = h.ranges clause_parents last_variable tt k in omega arith

  pub condition-most : (k x : ℕ) → x ≡ at clause_conditions k w → x ≤ disjunctions
  condition-most k x e = let m = h.ranges clause_conditions disjunctions tt k in omega arith

  pub requirement-below : (k x : ℕ) → x ≡ at clause_requirements k w → x < requirements
  requirement-below k x e = let m = h.ranges clause_requirements last_requirement tt k in omega arith

-- a cache, by its words
module _ (w : List ℕ) (key state : ℕ) (is : state ≡ at cache_states key w) where
  pub cache-dirty : state ≡ dirty → None ≡ cache_of w key
  unfolding cache_of cache_by
  cache-dirty h = rw (← is, eq-eqb state dirty h)
