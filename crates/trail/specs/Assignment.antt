-- The present assignment, and what the queue reads and moves of the trail besides: the entries' variables, how many there are, the sync floor.
use Rattle.std.specs.Prelude.{Bool, List, ℕ}
use Rattle.rules.specs.Walk.{is_true}
use Rattle.rules.specs.declared.Value.{Value}
use Rattle.store.specs.Area.{at, put}
use Rattle.store.specs.Layout.{map, sync_floor, trail_variables}
use Rattle.trail.specs.Cell.{cell_value}

-- the assignment that the map holds
unfoldable pub assigned : List ℕ → ℕ → Value
assigned w v = cell_value (at map v w)

-- a variable is assigned true
abbrev pub assigned_true : List ℕ → ℕ → Bool
assigned_true w v = is_true (assigned w v)

-- the variable of entry k
abbrev pub variable_at : List ℕ → ℕ → ℕ
variable_at w k = at trail_variables k w

-- the sync floor: below it trail and mirror agree
abbrev pub floor_of : List ℕ → ℕ
floor_of w = at sync_floor 0 w

-- the words with the sync floor at n
abbrev pub floor_moved : ℕ → List ℕ → List ℕ
floor_moved n w = put sync_floor 0 n w
