-- TRYING AND TAKING BACK: the calls that she makes between a proposal and its coming back.
use Rattle.std.specs.Prelude.{List, [], ◌∷◌, ◌≡◌, ℕ, ◌≤◌}
use Rattle.imbolaverk.specs.Calls.{Call, left_by}
use Rattle.promises.specs.Regions.{ApartAll, writes_in}
use Rattle.store.specs.declared.area.Area.{Area}
use Rattle.store.specs.Layout.{environment_region, region, trail_length, trail_values}
use Rattle.trail.specs.Entries.{entries}

-- "She accepts, tries, takes back": any calls, refused ones included, that write no clause, table or setting: assignments, undos,
-- the next entry, syncs, proposals, and all that only read. The first n entries of the trail are never taken back, and in the end no other is left
abbrev pub TakesBack : ℕ → List ℕ → List Call → Type 0
TakesBack n w [] = entries w ≡ n
TakesBack n w (c ∷ cs) = ApartAll environment_region (writes_in c) × ((n ≤ entries (left_by w c)) × TakesBack n (left_by w c) cs)

-- the trail's length, the map, and the entries' variables and values
abbrev pub entries_region : Area
entries_region = region trail_length trail_values

-- asking: any calls that write neither clauses, tables and settings nor the trail's length, the map or the entries' variables and values: syncs,
-- proposals, and all that only read
abbrev pub Asks : List Call → Type 0
Asks [] = Unit {0}
Asks (c ∷ cs) = ApartAll environment_region (writes_in c) × (ApartAll entries_region (writes_in c) × Asks cs)
