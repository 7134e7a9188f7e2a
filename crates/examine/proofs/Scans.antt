-- Loops over the lists of a requirement, and what the two searches say of it. Assumes nothing.
use Rattle.meaning.proofs.Reading.{slots-of}
use Rattle.std.specs.Prelude.{Option, Some, None}
use mathlib.Core.Bool.{Bool, true, false, cond}
use mathlib.Core.List.{List, [], ◌∷◌, ◌++◌}
use mathlib.Core.Path.{◌≡◌, refl, sym, ◌∙◌}
use Prim.Native.Nat.{ℕ, ◌+◌, ◌-◌, ◌≤◌, ◌<◌}
use native.Mathlib.Omega.{arith}
use Rattle.rules.proofs.Froms.{upto_next, upto_done}
use Rattle.meaning.specs.View.{list_at, lists_at}
use Rattle.requirement.specs.Tables.{first_slot, list_count, set_of, name_of, cells_of}
use Rattle.rules.specs.Walk.{is_true, CandidateList, flattened, first_that, first_true, first_undecided, count_undecided, or_next, frontier}
use Rattle.rules.specs.declared.Value.{Value}
use Rattle.rules.specs.declared.State.{State}
use Rattle.rules.specs.declared.State.TheVariants.{Satisfied, Frontier}
use Rattle.rules.specs.Numbers.{from}
use Rattle.rules.specs.declared.State.TheVariants as state

-- what was found in one list
module _ (a : ℕ → Value) (w : List ℕ) (slot : ℕ) (cells : List ℕ) (is : cells ≡ cells_of w slot) where
  pub list_first : (x name count : ℕ) → first_undecided a cells ≡ Some x → name ≡ name_of w (set_of w slot) → count ≡ count_undecided a cells → Frontier x name count ≡ frontier a (list_at w slot ∷ [])
  unfolding frontier list_at
  list_first x name count e f g = rw (f, g, ← is, e)

  pub list_dead : first_undecided a cells ≡ None → state.Dead ≡ frontier a (list_at w slot ∷ [])
  unfolding frontier list_at
  list_dead e = rw (← is, e)

-- the search of one list and of those behind it
module _ (a : ℕ → Value) where
  true-later : (xs ys : List ℕ) → first_true a xs ≡ None → first_true a (xs ++ ys) ≡ first_true a ys
  unfolding first_that
  true-later [] ys e = refl
  true-later (x ∷ xs) ys e = go (is_true (a x)) e (true-later xs ys)
    where
      go : (b : Bool) → cond b (Some x) (first_true a xs) ≡ None → (first_true a xs ≡ None → first_true a (xs ++ ys) ≡ first_true a ys) → cond b (Some x) (first_true a (xs ++ ys)) ≡ first_true a ys
      go true q ih = cc
      go false q ih = ih q

  true-here : (xs ys : List ℕ) (y : ℕ) → first_true a xs ≡ Some y → first_true a (xs ++ ys) ≡ Some y
  unfolding first_that
  true-here [] ys y e = cc
  true-here (x ∷ xs) ys y e = go (is_true (a x)) e (true-here xs ys y)
    where
      go : (b : Bool) → cond b (Some x) (first_true a xs) ≡ Some y → (first_true a xs ≡ Some y → first_true a (xs ++ ys) ≡ Some y) → cond b (Some x) (first_true a (xs ++ ys)) ≡ Some y
      go true q ih = q
      go false q ih = ih q

-- a frontier is that of the first list which has one
frontier-here : (f : (Option ℕ)) (n m : ℕ) (t u : State) → or_next f n m state.Dead ≡ t → (t ≡ state.Dead → ⊥) → or_next f n m u ≡ t
frontier-here (Some x) n m t u e h = e
frontier-here None n m t u e h = absurd (h (sym e))

frontier-later : (f : (Option ℕ)) (n m : ℕ) (u : State) → or_next f n m state.Dead ≡ state.Dead → or_next f n m u ≡ u
frontier-later (Some x) n m u e = cc
frontier-later None n m u e = refl

-- the loops over lists: what is left from list i on is the whole
module _ (a : ℕ → Value) (w : List ℕ) (t end i : ℕ) where
  abbrev left : List CandidateList
  left = from (list_at w) (i + 1) (end - (i + 1))

  module _ (so : first_true a (flattened (from (list_at w) t (end - t))) ≡ first_true a (flattened (from (list_at w) i (end - i)))) where
    pub lists_hit : (x : ℕ) → i < end → first_true a (cells_of w i) ≡ Some x → Some x ≡ first_true a (flattened (from (list_at w) t (end - t)))
    unfolding flattened list_at
    lists_hit x h q = sym (so ∙ rw (upto_next (list_at w) i end h, flattened) (true-here a (cells_of w i) (flattened left) x q))

    pub lists_next : i < end → first_true a (cells_of w i) ≡ None → first_true a (flattened (from (list_at w) t (end - t))) ≡ first_true a (flattened left)
    unfolding flattened list_at
    lists_next h q = so ∙ rw (upto_next (list_at w) i end h, flattened) (true-later a (cells_of w i) (flattened left) q)

    pub lists_none : end ≤ i → None ≡ first_true a (flattened (from (list_at w) t (end - t)))
    unfolding flattened first_that
    lists_none h = sym (so ∙ rw (upto_done (list_at w) i end h))

  module _ (so : frontier a (from (list_at w) t (end - t)) ≡ frontier a (from (list_at w) i (end - i))) where
    pub frontier_hit : (g : State) → i < end → frontier a (list_at w i ∷ []) ≡ g → (g ≡ state.Dead → ⊥) → g ≡ frontier a (from (list_at w) t (end - t))
    unfolding frontier
    frontier_hit g h q z = sym (so ∙ rw (upto_next (list_at w) i end h) (frontier-here (first_undecided a (list_at w i).candidates) (list_at w i).name (count_undecided a (list_at w i).candidates) g (frontier a left) q z))

    pub frontier_next : i < end → frontier a (list_at w i ∷ []) ≡ state.Dead → frontier a (from (list_at w) t (end - t)) ≡ frontier a left
    unfolding frontier
    frontier_next h q = so ∙ rw (upto_next (list_at w) i end h) (frontier-later (first_undecided a (list_at w i).candidates) (list_at w i).name (count_undecided a (list_at w i).candidates) (frontier a left) q)

    pub frontier_none : end ≤ i → state.Dead ≡ frontier a (from (list_at w) t (end - t))
    unfolding frontier
    frontier_none h = sym (so ∙ rw (upto_done (list_at w) i end h))

-- the lists of a requirement, from its first slot on
pub slots_whole : (w : List ℕ) (key t n : ℕ) → t ≡ first_slot key → n ≡ list_count w key → from (list_at w) t (t + n - t) ≡ lists_at w key
unfolding lists_at
slots_whole w key t n p q =
    let z : t + n - t ≡ n = omega arith in
    rw (z, p, q)

-- for the range of its lists
pub ruleset slots = (slots-of, slots_whole)

-- for the two loops over lists
pub ruleset scans = (lists_hit, lists_next, lists_none, frontier_hit, frontier_next, frontier_none)
