-- What a clause's words say of the definitions, where there is such a clause. Assumes nothing.
use mathlib.Core.Bool.{true, false}
use mathlib.Core.List.{List}
use mathlib.Core.Logic.{◌≢◌}
use mathlib.Core.Path.{◌≡◌}
use Prim.Native.Nat.{ℕ, ◌<◌}
use borrow.Author.Tests.{eq-eqb, ne_eqb}
use Rattle.meaning.proofs.Records.{clause-word}
use Rattle.meaning.specs.Standing.{env_of, mark_of}
use Rattle.meaning.specs.View.{literals_at}
use Rattle.rules.specs.Walk.{active, all_false, is_true}
use Rattle.store.specs.Area.{at}
use Rattle.store.specs.Layout.{clause_conditions, clause_count, clause_parents, queued}
use Rattle.trail.specs.Assignment.{assigned}

-- "A clause is active if its parent is true and every literal of its condition is false"
module _ (w : List ℕ) (k : ℕ) (l : k < at clause_count 0 w) (p : ℕ) (e : p ≡ at clause_parents k w) where
  pub active_idle : is_true (assigned w p) ≡ false → false ≡ active (env_of w) (assigned w) k
  active_idle h = rw (clause-word clause_parents w k l, ← e, h)

  pub active_by : (c : ℕ) → c ≡ at clause_conditions k w → is_true (assigned w p) ≡ true → all_false (assigned w) (literals_at w c) ≡ active (env_of w) (assigned w) k
  active_by c f h = rw (clause-word clause_parents w k l, clause-word clause_conditions w k l, ← e, ← f, h)

-- "a queued mark per clause"
module _ (w : List ℕ) (k : ℕ) (l : k < at clause_count 0 w) (x : ℕ) (e : x ≡ at queued k w) where
  pub mark_set : x ≡ 1 → mark_of w k ≡ true
  unfolding mark_of
  mark_set h = rw (clause-word queued w k l, ← e, eq-eqb x 1 h)

  pub mark_clear : x ≢ 1 → mark_of w k ≡ false
  unfolding mark_of
  mark_clear h = rw (clause-word queued w k l, ← e, ne_eqb x 1 h)
