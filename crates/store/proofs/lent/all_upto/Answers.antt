use Rattle.std.proofs.Common.{arith}
use borrow.Author.Tests.{le-leb, lt-leb}
use Rattle.store.proofs.Runs.{every_fails, every_more, every_ends}
use Rattle.store.proofs.lent.all_upto.Goals as goal

pub returns-then-most-x : goal.returns-then-most-x
returns-then-most-x c = every_fails _ _ _ c.loop-x.invariant (omega arith) (lt-leb _ _ c.if-most-x.true)

pub loop-x-preserved : goal.loop-x-preserved
loop-x-preserved c = every_more _ _ _ c.loop-x.invariant (omega arith) (le-leb _ _ c.if-most-x.false)

pub returns : goal.returns
returns c = every_ends _ _ c.loop-x.x-index c.loop-x.invariant (omega arith)
