use Rattle.std.proofs.Common.{◌-◌, arith, length-set}
use Rattle.store.proofs.RankLaws.{move-turn, move-done}
use Rattle.store.proofs.area.Area.move_up.Goals as goal

pub loop-i-preserved : goal.loop-i-preserved
loop-i-preserved c = (simp length-set c.loop-i.invariant.0, move-turn c.args.self c.args.from (c.args.to - c.args.from) c.loop-i.i _ _ (omega arith) (omega arith) c.loop-i.invariant.1)

pub returns : goal.returns
returns c = move-done _ _ _ c.loop-i.i _ _ (omega arith) c.loop-i.invariant.1
