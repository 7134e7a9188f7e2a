use Rattle.std.proofs.Common.{length, get_or, leb}
use Rattle.store.proofs.Counting.{Counted}
use Rattle.store.proofs.shape.smaller_in.Given as goal

abbrev pub invariant-loop-i : goal.invariant-loop-i
invariant-loop-i l = Counted (λ k. leb (get_or l.list k 0) k) (length l.list) l.i l.bad
