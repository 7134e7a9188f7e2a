use Rattle.store.proofs.Counting.{Covered}
use Rattle.store.proofs.shape.ceiling.Given as goal

abbrev pub invariant-loop-x : goal.invariant-loop-x
invariant-loop-x l = Covered l.list l.x-index l.all
