use Rattle.std.proofs.Common.{arith}
use Rattle.store.proofs.Counting.{covered_start, covered_turn, covered_done}
use Rattle.store.proofs.shape.ceiling.Goals as goal

pub loop-x-init : goal.loop-x-init
loop-x-init c = covered_start _

pub loop-x-preserved : goal.loop-x-preserved
loop-x-preserved c = covered_turn _ _ _ c.loop-x.invariant

pub returns : goal.returns
returns c = covered_done _ _ _ c.loop-x.invariant (omega arith)
