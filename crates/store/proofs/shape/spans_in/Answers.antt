use Rattle.std.proofs.Common.{arith, sym, ◌∙◌}
use Rattle.store.proofs.Counting.{counted_start, counted_pass, counted_fail, spans-done}
use Rattle.store.proofs.shape.spans_in.Goals as goal
use Rattle.store.proofs.shape.spans_in.Goals.{then-not-lies_in, else-not-lies_in}

pub loop-i-init : goal.loop-i-init
loop-i-init c = counted_start _ _

pub overflow_add-bad : goal.overflow_add-bad
overflow_add-bad c = omega (arith, c.loop-i.invariant.few)

pub loop-i-preserved : goal.loop-i-preserved
loop-i-preserved c = elim c.if-not-lies_in.branch [
  | then-not-lies_in w ↦ counted_fail _ _ _ _ _ c.loop-i.invariant (omega arith) (sym c.lies_in.ensures ∙ w.if-not-lies_in.true) w.bad-is
  | else-not-lies_in w ↦ counted_pass _ _ _ _ _ c.loop-i.invariant (omega arith) (sym c.lies_in.ensures ∙ w.if-not-lies_in.false) w.bad-is
]

pub returns : goal.returns
returns c = spans-done _ _ _ _ c.requires.same _ _ (omega arith) c.loop-i.invariant
