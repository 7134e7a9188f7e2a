use Rattle.std.proofs.Common.{arith}
use borrow.Author.Tests.{eq-eqb, ne_eqb}
use Rattle.store.specs.Limits.{map_hole}
use Rattle.store.proofs.Counting.{counted_start, counted_pass, counted_fail, every-done}
use Rattle.store.proofs.shape.all_cells.Goals as goal
use Rattle.store.proofs.shape.all_cells.Goals.{then-x, else-x}

pub loop-x-init : goal.loop-x-init
loop-x-init c = counted_start _ _

pub overflow_add-bad : goal.overflow_add-bad
overflow_add-bad c = omega (arith, c.loop-x.invariant.few)

pub loop-x-preserved : goal.loop-x-preserved
loop-x-preserved c = elim c.if-x.branch [
  | then-x w ↦ counted_fail _ _ _ _ _ c.loop-x.invariant (omega arith) (rw (eq-eqb _ map_hole w.if-x.true)) w.bad-is
  | else-x w ↦ counted_pass _ _ _ _ _ c.loop-x.invariant (omega arith) (rw (ne_eqb _ map_hole w.if-x.false)) w.bad-is
]

pub returns : goal.returns
returns c = every-done _ _ _ _ (omega arith) c.loop-x.invariant
