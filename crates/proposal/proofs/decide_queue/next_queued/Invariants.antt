use mathlib.Core.Path.{◌≡◌}
use Prim.Native.Nat.{◌-◌}
use Rattle.proposal.specs.Turn.{next_queued}
use Rattle.proposal.proofs.decide_queue.next_queued.Given as goal

abbrev pub invariant-loop-i : goal.invariant-loop-i
invariant-loop-i l = next_queued l.s l.k (l.n - l.k) ≡ next_queued l.s l.i (l.n - l.i)
