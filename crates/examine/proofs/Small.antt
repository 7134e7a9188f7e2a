-- What a requirement of a sound store is has numbers in range: its candidate a variable, its name a name, its count at most the cells.
-- Assumes nothing.
use Rattle.std.specs.Prelude.{Option, Some, None}
use mathlib.Core.Bool.{Bool, true, false, cond, false≢true}
use mathlib.Core.List.{List, [], ◌∷◌}
use mathlib.Core.Path.{◌≡◌, refl}
use Prim.Native.Nat.{ℕ, zero, suc, ◌+◌, ◌≤◌, ◌<◌}
use native.Mathlib.Omega.{arith}
use borrow.Author.Tests.{le-leb, leb-true}
use lib.Dec.{leb}
use lib.ListN.{length, get_or, take, drop, length-take}
use lib.Seq.{get_or-take, get_or-drop}
use Rattle.meaning.specs.View.{list_at, lists_at}
use Rattle.requirement.specs.Tables.{cells_of, first_slot, list_count, name_of, set_of}
use Rattle.rules.specs.Walk.{CandidateList, count_undecided, evaluate, first_that, first_true, first_undecided, flattened, frontier, is_undecided, or_else, or_next}
use Rattle.rules.proofs.Choice.{both}
use Rattle.store.proofs.Counting.{every_of}
use Rattle.store.specs.Area.{area, at}
use Rattle.store.specs.Layout.{candidates, list_lengths, list_starts, set_names}
use Rattle.store.specs.Limits.{cell_room, last_name, last_variable, names}
use Rattle.store.specs.Shape.{Sound, every, up_to}
use Rattle.rules.specs.declared.State.{State}
use Rattle.rules.specs.declared.State.TheVariants.{Satisfied, Frontier}
use Rattle.rules.specs.declared.Value.{Value}
use Rattle.trail.specs.Assignment.{assigned, assigned_true}
use Rattle.rules.specs.Numbers.{from}
use Rattle.rules.specs.declared.State.TheVariants as state
use Rattle.meaning.proofs.Lists.{every-both}

-- a variable is undecided
abbrev pub undecided_in : List ℕ → ℕ → Bool
undecided_in w v = is_undecided (assigned w v)

abbrev pub Small : State → Type 0
Small (Satisfied x) = x ≤ last_variable
Small (Frontier x n m) = (x ≤ last_variable) × (n ≤ last_name) × (m ≤ cell_room)
Small state.Dead = Unit {0}

-- variables all, so the one that a search finds
found-small : (p : ℕ → Bool) (vs : List ℕ) (x : ℕ) → every (up_to last_variable) vs ≡ true → first_that p vs ≡ Some x → x ≤ last_variable
unfolding every first_that
found-small p [] x e h = absurd (false≢true (cc))
found-small p (v ∷ vs) x e h = go (p v) h (found-small p vs x all.1)
  where
    all : (leb v last_variable ≡ true) × (every (up_to last_variable) vs ≡ true)
    all = both (leb v last_variable) (every (up_to last_variable) vs) e

    go : (b : Bool) → cond b (Some v) (first_that p vs) ≡ Some x → (first_that p vs ≡ Some x → x ≤ last_variable) → x ≤ last_variable
    go true q ih = let z : v ≡ x = cc in rw (← z) (leb-true v last_variable all.0)
    go false q ih = ih q

-- a list has at most as many undecided cells as it has cells
pub count_most : (a : ℕ → Value) (vs : List ℕ) → count_undecided a vs ≤ length vs
unfolding count_undecided
count_most a [] = omega arith
count_most a (v ∷ vs) = go (is_undecided (a v)) (count_most a vs)
  where
    go : (b : Bool) → count_undecided a vs ≤ length vs → cond b (suc (count_undecided a vs)) (count_undecided a vs) ≤ suc (length vs)
    go true h = omega arith
    go false h = omega arith

module _ (w : List ℕ) (h : Sound w) where
  cells-small : (slot : ℕ) → every (up_to last_variable) (cells_of w slot) ≡ true
  unfolding cells_of at
  cells-small slot = every_of (up_to last_variable) (cells_of w slot) one
    where
      one : (i : ℕ) → i < length (take (at list_lengths slot w) (drop (at list_starts slot w) (area candidates w))) → leb (get_or (take (at list_lengths slot w) (drop (at list_starts slot w) (area candidates w))) i 0) last_variable ≡ true
      one i l =
          rw (
            get_or-take (at list_lengths slot w) (drop (at list_starts slot w) (area candidates w)) i 0 (omega (arith, length-take (at list_lengths slot w) (drop (at list_starts slot w) (area candidates w)))),
            get_or-drop (at list_starts slot w) (area candidates w) i 0,
          )
          (le-leb _ _ (h.ranges candidates last_variable tt (at list_starts slot w + i)))

  pub cells-few : (slot : ℕ) → length (cells_of w slot) ≤ cell_room
  unfolding cells_of
  cells-few slot =
      omega (arith, length-take (at list_lengths slot w) (drop (at list_starts slot w) (area candidates w)), h.ranges list_lengths cell_room tt slot)

  name-small : (set : ℕ) → name_of w set ≤ last_name
  name-small set = omega (arith, h.ranges set_names names tt set)

  all_small : (t n : ℕ) → every (up_to last_variable) (flattened (from (list_at w) t n)) ≡ true
  unfolding flattened from list_at every
  all_small t zero = refl
  all_small t (suc n) = every-both (up_to last_variable) (cells_of w t) (flattened (from (list_at w) (t + 1) n)) (cells-small t) (all_small (t + 1) n)

  frontier-small : (t n : ℕ) → Small (frontier (assigned w) (from (list_at w) t n))
  unfolding frontier from list_at
  frontier-small t zero = tt
  frontier-small t (suc n) = go (first_undecided (assigned w) (cells_of w t)) refl (frontier-small (t + 1) n)
    where
      go : (f : (Option ℕ)) → first_undecided (assigned w) (cells_of w t) ≡ f → Small (frontier (assigned w) (from (list_at w) (t + 1) n)) →
          Small (or_next f (name_of w (set_of w t)) (count_undecided (assigned w) (cells_of w t)) (frontier (assigned w) (from (list_at w) (t + 1) n)))
      go (Some x) e ih = (
        found-small (undecided_in w) (cells_of w t) x (cells-small t) e,
        name-small (set_of w t),
        omega (arith, count_most (assigned w) (cells_of w t), cells-few t),
      )
      go None e ih = ih

  pub evaluate-small : (key : ℕ) → Small (evaluate (assigned w) (lists_at w key))
  unfolding evaluate lists_at
  evaluate-small key = go (first_true (assigned w) (flattened lists)) refl
    where
      lists : List CandidateList
      lists = from (list_at w) (first_slot key) (list_count w key)

      go : (f : (Option ℕ)) → first_true (assigned w) (flattened lists) ≡ f → Small (or_else f (frontier (assigned w) lists))
      go (Some x) e = found-small (assigned_true w) (flattened lists) x (all_small (first_slot key) (list_count w key)) e
      go None e = frontier-small (first_slot key) (list_count w key)
