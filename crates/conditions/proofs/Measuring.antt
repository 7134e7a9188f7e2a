-- How long terms are, and the sum over all terms. Assumes nothing.
use mathlib.Core.Bool.{true, false}
use mathlib.Core.List.{List}
use mathlib.Core.Path.{◌≡◌, refl, ap, ◌∙◌}
use Prim.Native.Nat.{ℕ, zero, suc, ◌+◌, ◌-◌, ◌≤◌, ◌<◌, min}
use native.Mathlib.Nat.{zero-add}
use native.Mathlib.Numerals.{add-one}
use native.Mathlib.Omega.{arith}
use borrow.Author.Tests.{leb-true, le-leb, lt-leb}
use lib.ListN.{length, length-append}
use Rattle.store.specs.Limits.{most_sets}
use Rattle.conditions.specs.Dnf.{term_of}
use Rattle.conditions.specs.Steps.{short_at, cells_to}
use Rattle.conditions.specs.Ways.{Asked, AllAsked, Good}
use Rattle.conditions.specs.declared.dnf.Term.{Term}
use Rattle.conditions.specs.declared.dnf.Way.TheVariants.{Two}
use Rattle.rules.proofs.Loops.{all-at}
use Rattle.rules.specs.Numbers.{all_from}

-- a term that is two parts
pub parts_length : (w : List ℕ) (c i : ℕ) (t u : Term) → Good w c i (Two t u) → length (term_of w c i) ≡ length (term_of w t.link t.index) + length (term_of w u.link u.index)
parts_length w c i t u two = ap length two.4 ∙ length-append (term_of w t.link t.index) (term_of w u.link u.index)

pub asked_at : (w : List ℕ) (c n i : ℕ) → AllAsked w c n → i < n → Asked w c i
asked_at w c n i h l = record { inside = h.inside; there = omega (arith, h.all); few = omega (arith, h.all, h.few) }

-- what the counted length says of a term
module _ (w : List ℕ) (c i x : ℕ) (is : x ≡ min (most_sets + 1) (length (term_of w c i))) where
  pub not_short : most_sets < x → short_at w c i ≡ false
  unfolding short_at
  not_short h = lt-leb (length (term_of w c i)) most_sets (omega arith)

  pub is_short : x ≤ most_sets → short_at w c i ≡ true
  unfolding short_at
  is_short h = le-leb (length (term_of w c i)) most_sets (omega arith)

-- where every term is short, the counted length is exact
pub short_length : (w : List ℕ) (c n i : ℕ) → all_from (short_at w c) 0 n ≡ true → i < n → length (term_of w c i) ≤ most_sets
unfolding short_at
short_length w c n i short h = leb-true (length (term_of w c i)) most_sets (rw zero-add at (all-at (short_at w c) 0 n i short h))

-- the sum, term by term
pub cells_none : (w : List ℕ) (c : ℕ) → cells_to w c 0 ≡ 0
unfolding cells_to
cells_none w c = refl

pub cells_more : (w : List ℕ) (c i : ℕ) → cells_to w c (i + 1) ≡ cells_to w c i + length (term_of w c i)
unfolding cells_to
cells_more w c i = rw add-one

cells_grow : (w : List ℕ) (c i d : ℕ) → cells_to w c i ≤ cells_to w c (d + i)
unfolding cells_to
cells_grow w c i zero = rw (zero-add i) (omega arith)
cells_grow w c i (suc d) =
    let h = cells_grow w c i d in
    let e : suc d + i ≡ suc (d + i) = omega arith in
    rw e (omega arith)

-- there is room for every term
pub room_at : (w : List ℕ) (c n i from m : ℕ) → i < n → from ≡ cells_to w c i → cells_to w c n ≤ m → from + length (term_of w c i) ≤ m
unfolding cells_to
room_at w c n i from m h e l =
    let z : n - suc i + suc i ≡ n = omega arith in
    let g : cells_to w c (suc i) ≤ cells_to w c n = rw z at (cells_grow w c (suc i) (n - suc i)) in
    omega arith

pub ruleset measuring = (asked_at, not_short, is_short, short_length, cells_none, cells_more, room_at)
