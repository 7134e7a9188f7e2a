use Rattle.std.proofs.Common.{arith}
use borrow.Author.Tests.{le-leb, lt-leb}
use Rattle.store.proofs.Counting.{counted_start, counted_pass, counted_fail, every-done}
use Rattle.store.proofs.shape.none_above.Goals as goal
use Rattle.store.proofs.shape.none_above.Goals.{then-most-x, else-most-x}

pub loop-x-init : goal.loop-x-init
loop-x-init c = counted_start _ _

pub overflow_add-bad : goal.overflow_add-bad
overflow_add-bad c = omega (arith, c.loop-x.invariant.few)

pub loop-x-preserved : goal.loop-x-preserved
loop-x-preserved c = elim c.if-most-x.branch [
  | then-most-x w ↦ counted_fail _ _ _ _ _ c.loop-x.invariant (omega arith) (lt-leb _ _ w.if-most-x.true) w.bad-is
  | else-most-x w ↦ counted_pass _ _ _ _ _ c.loop-x.invariant (omega arith) (le-leb _ _ w.if-most-x.false) w.bad-is
]

pub returns : goal.returns
returns c = every-done _ _ _ _ (omega arith) c.loop-x.invariant
