use mathlib.Core.Path.{◌≡◌}
use Prim.Native.Nat.{◌+◌, ◌≤◌}
use lib.ListN.{length, drop}
use Rattle.requirement.specs.Load.{total, put_lists}
use Rattle.store.specs.Limits.{cell_room}
use Rattle.requirement.proofs.candidates.set_lists.Given as goal

abbrev pub invariant-loop-j : goal.invariant-loop-j
invariant-loop-j l = record {
  long : length l.s ≡ length l.initial.s;
  places : l.place + total (drop l.j l.lengths) ≤ cell_room;
  left : put_lists l.slot l.start l.lengths l.initial.s ≡ put_lists (l.slot + l.j) l.place (drop l.j l.lengths) l.s;
}
