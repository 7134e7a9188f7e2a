-- Lengths that add up, and the lists that have them: the loops' turns. Assumes nothing.
use mathlib.Core.Bool.{true, false, ◌&&◌}
use mathlib.Core.List.{List, [], ◌∷◌}
use mathlib.Core.Path.{◌≡◌, sym, ap, ◌∙◌}
use Prim.Native.Nat.{ℕ, suc, ◌+◌, ◌-◌, ◌≤◌, ◌<◌}
use native.Mathlib.Numerals.{add-one}
use native.Mathlib.Omega.{arith}
use borrow.Author.Tests.{leb-true, eqb-true, le-leb, lt-leb}
use lib.Dec.{leb, eqb}
use lib.ListN.{length, get_or, drop, drop_of_length-le}
use lib.Seq.{drop-cons}
use Rattle.requirement.specs.Load.{adds, total, put_lists}
use Rattle.rules.proofs.Choice.{both}
use Rattle.store.specs.Area.{put}
use Rattle.store.specs.Layout.{list_starts, list_lengths}

-- adding up: what is left of the test is the whole test
module _ (l : List ℕ) (n i rest : ℕ) (so : adds l n ≡ adds (drop i l) rest) where
  adds-turn : i < length l → adds l n ≡ leb (get_or l i 0) rest && adds (drop (i + 1) l) (rest - get_or l i 0)
  unfolding adds
  adds-turn h = so ∙ rw (drop-cons l i 0 h, add-one i)

  pub adds_fails : i < length l → rest < get_or l i 0 → false ≡ adds l n
  adds_fails h k = sym (rw (lt-leb (get_or l i 0) rest k) at (adds-turn h))

  pub adds_more : i < length l → get_or l i 0 ≤ rest → adds l n ≡ adds (drop (i + 1) l) (rest - get_or l i 0)
  adds_more h k = rw (le-leb (get_or l i 0) rest k) at (adds-turn h)

  pub adds_ends : length l ≤ i → eqb rest 0 ≡ adds l n
  unfolding adds
  adds_ends h = sym (so ∙ rw (drop_of_length-le l {i = i} h))

-- lengths that add up have that total
pub adds_total : (l : List ℕ) (n : ℕ) → adds l n ≡ true → total l ≡ n
unfolding adds total
adds_total [] n e = sym (eqb-true n 0 e)
adds_total (x ∷ xs) n e =
    let b = both (leb x n) (adds xs (n - x)) e in
    let h = leb-true x n b.0 in
    let t = adds_total xs (n - x) b.1 in
    omega arith

pub total-turn : (l : List ℕ) (i : ℕ) → i < length l → total (drop i l) ≡ get_or l i 0 + total (drop (i + 1) l)
unfolding total
total-turn l i h = rw (drop-cons l i 0 h, add-one i)

-- writing lists: what is left to write makes the whole
module _ (slot start : ℕ) (l w : List ℕ) (j place : ℕ) (s : List ℕ) (so : put_lists slot start l w ≡ put_lists (slot + j) place (drop j l) s) where
  pub lists-turn : j < length l → put_lists slot start l w ≡ put_lists (slot + (j + 1)) (place + get_or l j 0) (drop (j + 1) l) (put list_lengths (slot + j) (get_or l j 0) (put list_starts (slot + j) place s))
  unfolding put_lists
  lists-turn h =
      let e : slot + j + 1 ≡ slot + (j + 1) = omega arith in
      let step : put_lists (slot + j + 1) (place + get_or l j 0) (drop (suc j) l) (put list_lengths (slot + j) (get_or l j 0) (put list_starts (slot + j) place s)) ≡ put_lists (slot + (j + 1)) (place + get_or l j 0) (drop (j + 1) l) (put list_lengths (slot + j) (get_or l j 0) (put list_starts (slot + j) place s)) = rw (e, add-one j) in
      so ∙ ap (λ t. put_lists (slot + j) place t s) (drop-cons l j 0 h) ∙ step

  pub lists-done : length l ≤ j → s ≡ put_lists slot start l w
  unfolding put_lists
  lists-done h = sym (so ∙ rw (drop_of_length-le l {i = j} h))

pub ruleset by_adding = (adds_fails, adds_more, adds_ends)

pub ruleset by_turns = (total-turn, lists-turn, lists-done)
