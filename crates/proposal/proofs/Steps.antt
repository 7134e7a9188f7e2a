-- What the walk's code reads says of the definitions: hot lists, the largest activity. Assumes nothing.
use Rattle.store.proofs.AreaLaws.{at-past}
use Rattle.std.specs.List.{list_any, range_with_len}
use mathlib.Core.Bool.{Bool, true, false, cond}
use mathlib.Core.List.{List}
use mathlib.Core.Path.{◌≡◌, refl, ap, ◌∙◌}
use Prim.Native.Nat.{ℕ, zero, suc, ◌+◌, ◌≤◌, ◌<◌, max}
use native.Mathlib.Numerals.{add-one}
use native.Mathlib.Omega.{arith}
use lib.ListN.{length, get_or}
use Rattle.meaning.proofs.Records.{clause-word}
use Rattle.meaning.specs.Standing.{env_of}
use Rattle.meaning.specs.View.{list_at, lists_at}
use Rattle.proposal.specs.Turn.{hot_at, largest_at, top_at}
use Rattle.requirement.specs.Tables.{name_of, set_of}
use Rattle.rules.specs.Walk.{CandidateList, any_hot, largest, narrow}
use Rattle.store.proofs.AreaLaws.{length_area}
use Rattle.store.specs.Area.{area, at}
use Rattle.store.specs.Layout.{activities, clause_count, clause_requirements, set_names, words}
use Rattle.store.specs.Limits.{names}
use Rattle.store.specs.Shape.{Sound}
use Rattle.rules.specs.Numbers.{from}
use Rattle.rules.specs.Activity.{last_activity}

-- the name of a list is a name
pub name_below : (w : List ℕ) (slot x : ℕ) → Sound w → x ≡ name_of w (set_of w slot) → x < names
name_below w slot x h e = let m = h.ranges set_names names tt (set_of w slot) in omega arith

-- one of some lists has a hot name
pub any_hot_is : (w : List ℕ) (slot n : ℕ) → list_any (λ i. (env_of w).hot (name_of w (set_of w i))) (range_with_len slot n) ≡ any_hot (env_of w).hot (from (list_at w) slot n)
unfolding any_hot from list_at
any_hot_is w slot zero = refl
any_hot_is w slot (suc n) = rw (any_hot_is w (slot + 1) n)

pub hot-is : (w : List ℕ) (k key : ℕ) (cs : List CandidateList) → k < at clause_count 0 w → key ≡ at clause_requirements k w → cs ≡ lists_at w key → any_hot (env_of w).hot cs ≡ hot_at w k
unfolding hot_at
hot-is w k key cs l e f = rw (clause-word clause_requirements w k l, ← e, f)

-- the largest activity so far
module _ (w items : List ℕ) (is : items ≡ area activities w) (i t : ℕ) (so : t ≡ largest_at w i) where
  pub largest_next : (r : ℕ) → r ≡ max t (get_or items i 0) → r ≡ largest_at w (i + 1)
  unfolding largest largest_at at
  largest_next r e = e ∙ rw (add-one, is, so)

  pub largest_whole : words ≤ length w → i ≤ length items → length items ≤ i → t ≡ largest_at w names
  largest_whole long l m =
      let size : length items ≡ names = ap length is ∙ length_area activities w (omega arith) in
      let e : i ≡ names = omega arith in
      so ∙ ap (largest_at w) e

pub largest_none : (w : List ℕ) → 0 ≡ largest_at w 0
unfolding largest largest_at
largest_none w = refl

largest-most : (f : ℕ → ℕ) (m n : ℕ) → ((i : ℕ) → f i ≤ m) → largest f n ≤ m
unfolding largest
largest-most f m zero h = omega arith
largest-most f m (suc n) h = omega (arith, largest-most f m n h, h n)

module _ (w : List ℕ) (h : Sound w) where
  pub activity-most : (n a : ℕ) → a ≡ at activities n w → a ≤ last_activity
  activity-most n a e = let m = h.ranges activities last_activity tt n in omega arith

  pub largest-good : (n t : ℕ) → t ≡ largest_at w n → t ≤ last_activity
  unfolding largest_at
  largest-good n t e = rw e (largest-most (env_of w).activity last_activity n (h.ranges activities last_activity tt))

  pub top_good : (t : ℕ) → t ≡ top_at w → t ≤ last_activity
  unfolding top_at
  top_good t e = rw e (go (narrow (env_of w)))
    where
      go : (b : Bool) → cond b (largest_at w names) 0 ≤ last_activity
      go true = largest-good names (largest_at w names) refl
      go false = omega arith

-- a word past the end of its area
pub ruleset past = (at-past)

-- for the loop over the activities
pub ruleset largest_of = (largest_none, largest_next, largest_whole)
