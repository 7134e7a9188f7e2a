use mathlib.Core.Path.{◌≡◌}
use Prim.Native.Nat.{◌-◌}
use Rattle.meaning.specs.View.{list_at}
use Rattle.rules.specs.Walk.{frontier}
use Rattle.trail.specs.Assignment.{assigned}
use Rattle.rules.specs.Numbers.{from}
use Rattle.examine.proofs.lists.frontier_in.Given as goal

abbrev pub invariant-loop-i : goal.invariant-loop-i
invariant-loop-i l = frontier (assigned l.s) (from (list_at l.s) l.slot (l.end - l.slot)) ≡ frontier (assigned l.s) (from (list_at l.s) l.i (l.end - l.i))
