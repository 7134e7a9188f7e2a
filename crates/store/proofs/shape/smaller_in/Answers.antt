use Rattle.std.proofs.Common.{arith}
use borrow.Author.Tests.{le-leb, lt-leb}
use Rattle.store.proofs.Counting.{counted_start, counted_pass, counted_fail, smaller-done}
use Rattle.store.proofs.shape.smaller_in.Goals as goal
use Rattle.store.proofs.shape.smaller_in.Goals.{then-i-wide, else-i-wide}

pub loop-i-init : goal.loop-i-init
loop-i-init c = counted_start _ _

pub overflow_add-bad : goal.overflow_add-bad
overflow_add-bad c = omega (arith, c.loop-i.invariant.few)

pub loop-i-preserved : goal.loop-i-preserved
loop-i-preserved c = elim c.if-i-wide.branch [
  | then-i-wide w ↦ counted_fail _ _ _ _ _ c.loop-i.invariant (omega arith) (lt-leb _ _ (rw c.wide.ensures at w.if-i-wide.true)) w.bad-is
  | else-i-wide w ↦ counted_pass _ _ _ _ _ c.loop-i.invariant (omega arith) (le-leb _ _ (rw c.wide.ensures at w.if-i-wide.false)) w.bad-is
]

pub returns : goal.returns
returns c = smaller-done _ _ _ (omega arith) c.loop-i.invariant
