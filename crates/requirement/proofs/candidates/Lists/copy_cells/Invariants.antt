use mathlib.Core.Path.{◌≡◌}
use Prim.Native.Nat.{◌+◌, ◌-◌, ◌≤◌}
use lib.ListN.{length}
use Rattle.store.specs.Lent.{joined}
use Rattle.requirement.specs.Tables.{cells_of, key_of, first_slot, list_count}
use Rattle.rules.specs.Numbers.{from}
use Rattle.store.specs.Area.{put_run}
use Rattle.requirement.proofs.candidates.Lists.copy_cells.Given as goal

abbrev pub invariant-loop-j : goal.invariant-loop-j
invariant-loop-j l = record {
  size : length l.cells ≡ length l.initial.cells;
  room : l.place + length (joined (from (cells_of l.self.s.now) (first_slot (key_of l.self.r) + l.j) (list_count l.self.s.now (key_of l.self.r) - l.j))) ≤ length l.initial.cells;
  left : put_run (record { base = 0; size = length l.initial.cells }) 0 (joined (from (cells_of l.self.s.now) (first_slot (key_of l.self.r)) (list_count l.self.s.now (key_of l.self.r)))) l.initial.cells ≡ put_run (record { base = 0; size = length l.initial.cells }) l.place (joined (from (cells_of l.self.s.now) (first_slot (key_of l.self.r) + l.j) (list_count l.self.s.now (key_of l.self.r) - l.j))) l.cells;
}
