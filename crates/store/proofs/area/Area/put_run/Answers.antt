use Rattle.std.proofs.Common.{arith, length-set}
use Rattle.store.proofs.Runs.{run-turn, run-done}
use Rattle.store.proofs.area.Area.put_run.Goals as goal

pub loop-i-preserved : goal.loop-i-preserved
loop-i-preserved c = (simp length-set c.loop-i.invariant.0, run-turn _ _ _ _ _ _ c.loop-i.invariant.1 (omega arith))

pub returns : goal.returns
returns c = run-done _ _ _ _ _ _ c.loop-i.invariant.1 (omega arith)
