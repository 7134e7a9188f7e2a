-- Where lists lie: what the shape says of each list, and what a wider area keeps. Assumes nothing.
use mathlib.Core.Bool.{Bool, true, false, ◌&&◌, ◌||◌}
use mathlib.Core.List.{List}
use mathlib.Core.Logic.{⊎_elim}
use mathlib.Core.Path.{◌≡◌, refl, ap, ◌∙◌}
use Prim.Native.Nat.{ℕ, ◌+◌, ◌≤◌, ◌<◌}
use native.Mathlib.Nat.{zero-add}
use native.Mathlib.Omega.{arith}
use borrow.Author.Tests.{leb-true, eqb-true, le-leb}
use lib.Dec.{leb, eqb}
use Rattle.store.proofs.AreaLaws.{at-past, at-inside}
use Rattle.rules.proofs.Choice.{both, eq_or, lt_or}
use Rattle.store.specs.Area.{at}
use Rattle.store.specs.Layout.{list_starts, list_lengths, single_cells, single_starts, single_lengths, union_starts, union_lengths}
use Rattle.store.specs.Limits.{version_sets, cell_room, union_lists}
use Rattle.store.specs.Shape.{lies, unions_from, Tabled}

pub lies-of : (from to st n : ℕ) → from ≤ st → st + n ≤ to → lies from to st n ≡ true
lies-of from to st n h k = go (eqb n 0)
  where
    go : (b : Bool) → b || (leb from st && leb (st + n) to) ≡ true
    go true = refl
    go false = rw (le-leb from st h, le-leb (st + n) to k)

-- a list that has a cell lies where its cells may lie
pub lies_facts : (from to st n : ℕ) → lies from to st n ≡ true → 0 < n → (from ≤ st) × (st + n ≤ to)
lies_facts from to st n e h = go (eqb n 0) refl e
  where
    go : (b : Bool) → eqb n 0 ≡ b → b || (leb from st && leb (st + n) to) ≡ true → (from ≤ st) × (st + n ≤ to)
    go true z q = absurd (let k = eqb-true n 0 z in omega arith)
    go false z q = let p = both (leb from st) (leb (st + n) to) q in (leb-true _ _ p.0, leb-true _ _ p.1)

pub lies_wider : (from to from' to' st n : ℕ) → lies from to st n ≡ true → from' ≤ from → to ≤ to' → lies from' to' st n ≡ true
lies_wider from to from' to' st n e h k =
    ⊎_elim
    (λ (z : n ≡ 0). rw z)
    (λ (z : n ≡ 0 → ⊥).
    let p = lies_facts from to st n e (omega arith) in
    lies-of from' to' st n (omega arith) (omega arith))
    (eq_or n 0)

-- the lists of the singles and of the unions, by their number among all lists
module _ (w : List ℕ) where
  single-start : (i : ℕ) → i < version_sets → at single_starts i w ≡ at list_starts i w
  single-start i h = at-inside single_starts list_starts i w (omega arith) (omega arith) h ∙ ap (λ k. at list_starts k w) (zero-add i)

  single-length : (i : ℕ) → i < version_sets → at single_lengths i w ≡ at list_lengths i w
  single-length i h = at-inside single_lengths list_lengths i w (omega arith) (omega arith) h ∙ ap (λ k. at list_lengths k w) (zero-add i)

  union-start : (i : ℕ) → i < union_lists → at union_starts i w ≡ at list_starts (version_sets + i) w
  union-start i h = at-inside union_starts list_starts i w (omega arith) (omega arith) h

  union-length : (i : ℕ) → i < union_lists → at union_lengths i w ≡ at list_lengths (version_sets + i) w
  union-length i h = at-inside union_lengths list_lengths i w (omega arith) (omega arith) h

  pub single_lies : Tabled w → (i : ℕ) → i < version_sets → lies 0 (at single_cells 0 w) (at list_starts i w) (at list_lengths i w) ≡ true
  single_lies t i h = rw (single-start i h, single-length i h) at (t.singles i)

  pub union_lies : Tabled w → (i : ℕ) → i < union_lists → lies (unions_from w) cell_room (at list_starts (version_sets + i) w) (at list_lengths (version_sets + i) w) ≡ true
  union_lies t i h = rw (union-start i h, union-length i h) at (t.unions i)

  -- and back
  pub singles-of : (to : ℕ) → ((i : ℕ) → i < version_sets → lies 0 to (at list_starts i w) (at list_lengths i w) ≡ true) → (i : ℕ) → lies 0 to (at single_starts i w) (at single_lengths i w) ≡ true
  singles-of to f i =
      ⊎_elim
      (λ (h : i < version_sets). rw (single-start i h, single-length i h) (f i h))
      (λ (h : version_sets ≤ i). rw (at-past single_lengths i w h))
      (lt_or i version_sets)

  pub unions-of : (from : ℕ) → ((i : ℕ) → i < union_lists → lies from cell_room (at list_starts (version_sets + i) w) (at list_lengths (version_sets + i) w) ≡ true) → (i : ℕ) → lies from cell_room (at union_starts i w) (at union_lengths i w) ≡ true
  unions-of from f i =
      ⊎_elim
      (λ (h : i < union_lists). rw (union-start i h, union-length i h) (f i h))
      (λ (h : union_lists ≤ i). rw (at-past union_lengths i w h))
      (lt_or i union_lists)
