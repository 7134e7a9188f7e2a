use Rattle.std.proofs.Common.{arith}
use Rattle.conditions.proofs.Measuring.{room_at}
use Rattle.conditions.proofs.dnf.Tally.write_terms.Goals as goal

pub emit-to-requires-clause-inside : goal.emit-to-requires-clause-inside
emit-to-requires-clause-inside c = room_at _ _ _ _ _ _ c.loop-index-test.true c.loop-index.invariant.here (omega (arith, c.requires.room))
