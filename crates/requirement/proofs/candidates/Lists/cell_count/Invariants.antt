use mathlib.Core.Path.{◌≡◌}
use Prim.Native.Nat.{◌+◌, ◌-◌, ◌*◌, ◌≤◌}
use lib.ListN.{length}
use Rattle.store.specs.Lent.{joined}
use Rattle.requirement.specs.Tables.{cells_of, key_of, first_slot, list_count}
use Rattle.rules.specs.Numbers.{from}
use Rattle.store.specs.Limits.{cell_room}
use Rattle.requirement.proofs.candidates.Lists.cell_count.Given as goal

abbrev pub invariant-loop-j : goal.invariant-loop-j
invariant-loop-j l = record {
  few : l.sum ≤ cell_room * l.j;
  left : l.sum + length (joined (from (cells_of l.self.s.now) (first_slot (key_of l.self.r) + l.j) (list_count l.self.s.now (key_of l.self.r) - l.j))) ≡ length (joined (from (cells_of l.self.s.now) (first_slot (key_of l.self.r)) (list_count l.self.s.now (key_of l.self.r))));
}
