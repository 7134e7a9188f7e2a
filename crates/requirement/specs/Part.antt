-- "Its candidate part is looked up in one of two lent areas, singles or unions, and handed back as a part of that area."
use Rattle.std.specs.Prelude.{Bool, cond, List, ℕ, ◌+◌, ◌-◌, ◌<◌, leb, eqb, length, take, drop}
use Rattle.store.specs.Area.{area, at}
use Rattle.store.specs.Layout.{list_starts, list_lengths, single_cells, candidates}
use Rattle.store.specs.Limits.{version_sets, unions, cell_room}
use Rattle.store.specs.Shape.{unions_from}
use Rattle.requirement.specs.declared.Requirement.{Requirement}
use Rattle.requirement.specs.declared.Requirement.TheVariants.{Single, Union}

-- the area of a requirement
abbrev pub area_of : Requirement → List ℕ → List ℕ → List ℕ
area_of (Single v) below above = below
area_of (Union u) below above = above

-- the part lies in it
abbrev pub in_part : Requirement → List ℕ → List ℕ → ℕ → ℕ → Bool
in_part r below above start len = leb (start + len) (length (area_of r below above))

-- "handed back as a part of that area"
abbrev pub part_of : Requirement → List ℕ → List ℕ → ℕ → ℕ → List ℕ
part_of r below above start len = take len (drop start (area_of r below above))

-- a requirement that there may be: "version sets 0..255, unions 0..63"
abbrev pub Named : Requirement → Type 0
Named (Single v) = v < version_sets
Named (Union u) = u < unions

-- the cells of the singles, from below
unfoldable pub single_area : List ℕ → List ℕ
single_area w = take (at single_cells 0 w) (area candidates w)

-- those of the unions, up to the last
unfoldable pub union_area : List ℕ → List ℕ
union_area w = drop (unions_from w) (area candidates w)

-- where the area of a requirement begins among the cells
abbrev pub area_from : List ℕ → Requirement → ℕ
area_from w (Single v) = 0
area_from w (Union u) = unions_from w

-- where it ends
abbrev pub area_to : List ℕ → Requirement → ℕ
area_to w (Single v) = at single_cells 0 w
area_to w (Union u) = cell_room

-- where a list begins in that area: an empty one lies anywhere, and begins where the area does
unfoldable pub place_of : List ℕ → Requirement → ℕ → ℕ
place_of w r slot = cond (eqb (at list_lengths slot w) 0) 0 (at list_starts slot w - area_from w r)
