-- What the shape says of the numbers that an evaluation reads. Assumes nothing.
use mathlib.Core.Bool.{Bool, true, false, cond}
use mathlib.Core.List.{List, []}
use mathlib.Core.Logic.{⊎_elim}
use mathlib.Core.Path.{◌≡◌, refl}
use Prim.Native.Nat.{ℕ, ◌+◌, ◌-◌, ◌*◌, ◌≤◌, ◌<◌}
use native.Mathlib.Omega.{arith}
use borrow.Author.Tests.{ltb-true, ltb-false}
use lib.Dec.{eqb, ltb}
use Rattle.requirement.proofs.Copying.{count_most}
use Rattle.requirement.proofs.Spans.{lies_facts, single_lies, union_lies}
use Rattle.meaning.specs.View.{literal_at, literals_at}
use Rattle.requirement.specs.Tables.{first_slot, list_count}
use Rattle.rules.proofs.Choice.{eq_or, lt_or}
use Rattle.store.specs.Area.{at}
use Rattle.store.specs.Layout.{list_starts, list_lengths, single_cells, disjunction_starts, disjunction_sizes}
use Rattle.store.specs.Limits.{version_sets, union_room, cell_room, literal_room, requirements, lists, most_disjunction_size}
use Rattle.rules.specs.Numbers.{from}
use Rattle.tables.specs.Disjunction.{literals_of, literals_under}
use Rattle.store.specs.Shape.{lies, unions_from, Sound}

-- a list lies in the cells; an empty one may begin at their end
span_within : (w : List ℕ) (slot low high : ℕ) → Sound w → high ≤ cell_room → lies low high (at list_starts slot w) (at list_lengths slot w) ≡ true → at list_starts slot w + at list_lengths slot w ≤ cell_room
span_within w slot low high h k e =
    ⊎_elim
    (λ (z : at list_lengths slot w ≡ 0). let m = h.ranges list_starts cell_room tt slot in omega arith)
    (λ (z : at list_lengths slot w ≡ 0 → ⊥).
    let p = lies_facts low high (at list_starts slot w) (at list_lengths slot w) e (omega arith) in
    omega (arith, p.1))
    (eq_or (at list_lengths slot w) 0)

pub span_of : (w : List ℕ) (slot place n : ℕ) → Sound w → slot < lists → place ≡ at list_starts slot w → n ≡ at list_lengths slot w → place + n ≤ cell_room
span_of w slot place n h k p q = rw (p, q) (⊎_elim
    (λ (l : slot < version_sets). span_within w slot 0 (at single_cells 0 w) h (h.ranges single_cells cell_room tt 0) (single_lies w h.tables slot l))
    (λ (l : version_sets ≤ slot).
    let e : version_sets + (slot - version_sets) ≡ slot = omega arith in
    span_within w slot (unions_from w) cell_room h (omega arith) (rw e at (union_lies w h.tables (slot - version_sets) (omega arith))))
    (lt_or slot version_sets))

-- the literals of a condition lie in theirs
pub literals-inside : (w : List ℕ) (condition : ℕ) → Sound w → (literals_under w condition).start + (literals_under w condition).count ≤ literal_room
unfolding literals_under literals_of
literals-inside w condition h = go (eqb condition 0)
  where
    d : ℕ
    d = condition - 1

    loaded : at disjunction_starts d w + (at disjunction_sizes d w - 1) ≤ literal_room
    loaded =
        ⊎_elim
        (λ (z : at disjunction_sizes d w ≡ 0). let m = h.ranges disjunction_starts literal_room tt d in omega arith)
        (λ (z : at disjunction_sizes d w ≡ 0 → ⊥).
        let f = lies_facts 0 most_disjunction_size (at disjunction_starts d w) (at disjunction_sizes d w) (h.tables.disjunctions d) (omega arith) in
        omega (arith, f.1))
        (eq_or (at disjunction_sizes d w) 0)

    go : (b : Bool) → (cond b (record { start = 0; count = 0 }) (literals_of w d)).start + (cond b (record { start = 0; count = 0 }) (literals_of w d)).count ≤ literal_room
    go true = omega arith
    go false = loaded

-- and are the condition's
pub literals_under_lem : (w : List ℕ) (condition : ℕ) → from (literal_at w) (literals_under w condition).start (literals_under w condition).count ≡ literals_at w condition
unfolding literals_under literals_of literals_at from
literals_under_lem w condition = go (eqb condition 0)
  where
    go : (b : Bool) → from (literal_at w) (cond b (record { start = 0; count = 0 }) (literals_of w (condition - 1))).start (cond b (record { start = 0; count = 0 }) (literals_of w (condition - 1))).count ≡ cond b [] (from (literal_at w) (at disjunction_starts (condition - 1) w) (at disjunction_sizes (condition - 1) w - 1))
    go true = refl
    go false = refl

-- a requirement's lists are lists
pub slots-of : (w : List ℕ) (key slot n : ℕ) → Sound w → key < requirements → slot ≡ first_slot key → n ≡ list_count w key → slot + n ≤ lists
unfolding first_slot
slots-of w key slot n h k p q = go (ltb key version_sets) refl p
  where
    go : (b : Bool) → ltb key version_sets ≡ b → slot ≡ cond b key (version_sets + union_room * (key - version_sets)) → slot + n ≤ lists
    go true e f = omega (arith, ltb-true key version_sets e, count_most w key h.ranges)
    go false e f = omega (arith, ltb-false key version_sets e, count_most w key h.ranges)
