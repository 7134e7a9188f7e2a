-- The candidate tables as the layers above see them: a requirement's key, its lists, their version sets and their cells.
use Rattle.std.specs.Prelude.{Bool, cond, ◌&&◌, List, ℕ, ◌+◌, ◌-◌, ◌*◌, ltb, eqb, take, drop, set, Result, Ok, Err}
use Rattle.rules.specs.Numbers.{from}
use Rattle.store.specs.Area.{area, at}
use Rattle.store.specs.Codes.{single_kind, union_kind}
use Rattle.store.specs.Layout.{set_names, union_sizes, union_sets, tables_loaded, list_starts, list_lengths, candidates}
use Rattle.store.specs.Limits.{version_sets, unions, union_room}
use Rattle.store.specs.declared.refusals.Refusal.{Refusal}
use Rattle.store.specs.declared.refusals.Refusal.TheVariants.{BadId}
use Rattle.requirement.specs.declared.Requirement.{Requirement}
use Rattle.requirement.specs.declared.Requirement.TheVariants.{Single, Union}

-- "A requirement is a single version set or a union": the single's version set, or 256 more than the union
abbrev pub key_of : Requirement → ℕ
key_of (Single v) = v
key_of (Union u) = version_sets + u

-- the requirement of two numbers: kind 0 is a single, 1 a union
unfoldable pub requirement_of : ℕ → ℕ → Requirement
requirement_of kind id = cond (eqb kind single_kind) (Single id) (Union id)

-- its two numbers
abbrev pub kind_of : Requirement → ℕ
kind_of (Single v) = single_kind
kind_of (Union u) = union_kind

abbrev pub id_of : Requirement → ℕ
id_of (Single v) = v
id_of (Union u) = u

-- the two numbers name one: "an id is out of range; a kind number is unknown" where they do not
abbrev pub in_range : ℕ → ℕ → Bool
in_range kind id = cond (eqb kind single_kind) (ltb id version_sets) (eqb kind union_kind && ltb id unions)

-- the requirement of two numbers as a call gives them, or 2
unfoldable pub decoded : ℕ → ℕ → Result Requirement Refusal
decoded kind id = cond (in_range kind id) (Ok (requirement_of kind id)) (Err BadId)

-- the key of two numbers
abbrev pub key_at : ℕ → ℕ → ℕ
key_at kind id = key_of (requirement_of kind id)

-- where the lists of a requirement begin: a list for each single, then eight for each union
unfoldable pub first_slot : ℕ → ℕ
first_slot key = cond (ltb key version_sets) key (version_sets + union_room * (key - version_sets))

-- how many version sets a requirement has
unfoldable pub set_count : List ℕ → ℕ → ℕ
set_count w key = cond (ltb key version_sets) 1 (at union_sizes (key - version_sets) w - 1)

-- how many lists: none while its table is not loaded
unfoldable pub list_count : List ℕ → ℕ → ℕ
list_count w key = cond (eqb (at tables_loaded key w) 0) 0 (set_count w key)

-- the version set of a list
unfoldable pub set_of : List ℕ → ℕ → ℕ
set_of w slot = cond (ltb slot version_sets) slot (at union_sets (slot - version_sets) w)

-- the name of a version set
abbrev pub name_of : List ℕ → ℕ → ℕ
name_of w set = at set_names set w - 1

-- the cells of a list
unfoldable pub cells_of : List ℕ → ℕ → List ℕ
cells_of w slot = take (at list_lengths slot w) (drop (at list_starts slot w) (area candidates w))

-- the lists of a requirement
abbrev pub lists_of : List ℕ → ℕ → List (List ℕ)
lists_of w key = from (cells_of w) (first_slot key) (list_count w key)
