use Rattle.std.proofs.Common.{◌≡◌}
use Rattle.imbolaverk.specs.CopyTrail.{copied}
use Rattle.imbolaverk.proofs.copy_trail.fill.Given as goal

abbrev pub invariant-loop-i : goal.invariant-loop-i
invariant-loop-i l = l.list ≡ copied l.s l.initial.list l.i
