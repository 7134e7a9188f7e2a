use Rattle.std.proofs.Common.{length, get_or}
use Rattle.store.proofs.Counting.{Counted}
use Rattle.store.specs.Shape.{lies}
use Rattle.store.proofs.shape.spans_in.Given as goal

abbrev pub invariant-loop-i : goal.invariant-loop-i
invariant-loop-i l = Counted (λ k. lies l.from l.to (get_or l.starts k 0) (get_or l.lengths k 0)) (length l.starts) l.i l.bad
