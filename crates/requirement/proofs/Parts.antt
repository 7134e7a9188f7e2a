-- A list looked up as a part of its requirement's area. Assumes nothing.
use mathlib.Core.Bool.{Bool, true, false, cond}
use mathlib.Core.List.{List}
use mathlib.Core.Logic.{⊎_elim}
use mathlib.Core.Path.{◌≡◌, refl, ◌∙◌}
use Prim.Native.Nat.{ℕ, ◌+◌, ◌-◌, ◌*◌, ◌≤◌, ◌<◌}
use native.Mathlib.Omega.{arith}
use borrow.Author.Tests.{eqb-true, eqb-false, lt-ltb, le-ltb, ne_eqb}
use lib.Dec.{T, eqb, le→leb}
use lib.ListN.{length, take, drop, length-drop}
use lib.Seq.{drop-drop, length-take-le}
use Rattle.requirement.proofs.Spans.{lies_facts, single_lies, union_lies}
use Rattle.requirement.proofs.Views.{listed-sets}
use Rattle.requirement.specs.Part.{in_part, part_of, Named, single_area, union_area, area_from, area_to, place_of}
use Rattle.requirement.specs.Tables.{key_of, first_slot, set_count, list_count, cells_of}
use Rattle.store.proofs.AreaLaws.{length_area, part-of_take}
use Rattle.rules.proofs.Choice.{eq_or}
use Rattle.store.specs.Area.{area, at}
use Rattle.store.specs.Layout.{union_sizes, list_starts, list_lengths, single_cells, candidates}
use Rattle.store.specs.Limits.{version_sets, union_room, cell_room, requirements, lists, most_union_size}
use Rattle.store.specs.Shape.{lies, unions_from, Sound}
use Rattle.requirement.specs.declared.Requirement.{Requirement}
use Rattle.requirement.specs.declared.Requirement.TheVariants.{Single, Union}

-- a requirement in range has a key
pub named_key : (r : Requirement) → Named r → key_of r < requirements
named_key (Single v) h = omega arith
named_key (Union u) h = omega arith

-- list j of a requirement is a list, and lies in the requirement's area
pub record Listed (w : List ℕ) (r : Requirement) (slot : ℕ) : Type 0 where
  pub slot< : slot < lists
  pub lying : lies (area_from w r) (area_to w r) (at list_starts slot w) (at list_lengths slot w) ≡ true

pub listed_at : (w : List ℕ) (r : Requirement) (j : ℕ) → Sound w → Named r → j < list_count w (key_of r) → Listed w r (first_slot (key_of r) + j)
unfolding first_slot set_count
listed_at w (Single v) j sound h k =
    let a = lt-ltb v version_sets h in
    let m = rw a at (listed-sets w v j k) in
    rw a (record { slot< = omega arith; lying = single_lies w sound.tables (v + j) (omega arith) })
listed_at w (Union u) j sound h k =
    let a = le-ltb (version_sets + u) version_sets (omega arith) in
    let z : version_sets + u - version_sets ≡ u = omega arith in
    let m = rw (a, z) at (listed-sets w (version_sets + u) j k) in
    let x = sound.ranges union_sizes most_union_size tt u in
    let e : version_sets + union_room * u + j ≡ version_sets + (union_room * u + j) = omega arith in
    rw (a, z, e) (record { slot< = omega arith; lying = union_lies w sound.tables (union_room * u + j) (omega arith) })

-- a list of any place, seen from where its area begins
abbrev place_in : ℕ → ℕ → ℕ → ℕ
place_in from st n = cond (eqb n 0) 0 (st - from)

module _ (from to st n : ℕ) where
  place-fits : lies from to st n ≡ true → place_in from st n + n ≤ to - from
  place-fits e = go (eqb n 0) refl
    where
      go : (b : Bool) → eqb n 0 ≡ b → cond b 0 (st - from) + n ≤ to - from
      go true q = let z = eqb-true n 0 q in omega arith
      go false q =
          let z = eqb-false n 0 q in
          let p = lies_facts from to st n e (omega arith) in
          omega arith

  place-run : (l : List ℕ) → lies from to st n ≡ true → take n (drop (place_in from st n) (drop from l)) ≡ take n (drop st l)
  place-run l e =
      ⊎_elim
      (λ (z : n ≡ 0). rw z)
      (λ (z : n ≡ 0 → ⊥).
      let p = lies_facts from to st n e (omega arith) in
      let y : from + (st - from) ≡ st = omega arith in
      rw (ne_eqb n 0 z, drop-drop (st - from) from l, y))
      (eq_or n 0)

-- its part lies in that area, and is its cells
module _ (w : List ℕ) (slot : ℕ) (sound : Sound w) where
  single-length : length (single_area w) ≡ at single_cells 0 w
  unfolding single_area
  single-length = length-take-le (at single_cells 0 w) (area candidates w) (rw (length_area candidates w (omega (arith, sound.long))) (omega (arith, sound.tables.together)))

  union-length : length (union_area w) ≡ cell_room - unions_from w
  unfolding union_area
  union-length = rw (length-drop (unions_from w) (area candidates w), length_area candidates w (omega (arith, sound.long)))

  pub part_fits : (r : Requirement) → Listed w r slot → T (in_part r (single_area w) (union_area w) (place_of w r slot) (at list_lengths slot w))
  unfolding place_of
  part_fits (Single v) l = le→leb (place_in 0 (at list_starts slot w) (at list_lengths slot w) + at list_lengths slot w) (length (single_area w)) (rw single-length (omega (arith, place-fits 0 (at single_cells 0 w) (at list_starts slot w) (at list_lengths slot w) l.lying)))
  part_fits (Union u) l = le→leb (place_in (unions_from w) (at list_starts slot w) (at list_lengths slot w) + at list_lengths slot w) (length (union_area w)) (rw union-length (place-fits (unions_from w) cell_room (at list_starts slot w) (at list_lengths slot w) l.lying))

  pub part-cells : (r : Requirement) → Listed w r slot → part_of r (single_area w) (union_area w) (place_of w r slot) (at list_lengths slot w) ≡ cells_of w slot
  unfolding place_of cells_of single_area union_area
  part-cells (Single v) l =
      let sc = at single_cells 0 w in
      let st = at list_starts slot w in
      let n = at list_lengths slot w in
      part-of_take (place_in 0 st n) n sc (area candidates w) (omega (arith, place-fits 0 sc st n l.lying))
      ∙ place-run 0 sc st n (area candidates w) l.lying
  part-cells (Union u) l = place-run (unions_from w) cell_room (at list_starts slot w) (at list_lengths slot w) (area candidates w) l.lying

-- list j of a requirement: that it is one, where it lies, and what its part is
module _ (w : List ℕ) (r : Requirement) (j : ℕ) (sound : Sound w) (named : Named r) (inside : j < list_count w (key_of r)) where
  listed : Listed w r (first_slot (key_of r) + j)
  listed = listed_at w r j sound named inside

  pub slot_listed : first_slot (key_of r) + j < lists
  slot_listed = listed.slot<

  pub lying_listed : lies (area_from w r) (area_to w r) (at list_starts (first_slot (key_of r) + j) w) (at list_lengths (first_slot (key_of r) + j) w) ≡ true
  lying_listed = listed.lying

  pub part_listed : T (in_part r (single_area w) (union_area w) (place_of w r (first_slot (key_of r) + j)) (at list_lengths (first_slot (key_of r) + j) w))
  part_listed = part_fits w (first_slot (key_of r) + j) sound r listed

  pub cells_listed : part_of r (single_area w) (union_area w) (place_of w r (first_slot (key_of r) + j)) (at list_lengths (first_slot (key_of r) + j) w) ≡ cells_of w (first_slot (key_of r) + j)
  cells_listed = part-cells w (first_slot (key_of r) + j) sound r listed

pub ruleset by_listing = (slot_listed, lying_listed, part_listed, cells_listed)
