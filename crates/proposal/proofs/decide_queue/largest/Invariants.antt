use mathlib.Core.Path.{◌≡◌}
use Rattle.proposal.specs.Turn.{largest_at}
use Rattle.proposal.proofs.decide_queue.largest.Given as goal

abbrev pub invariant-loop-a : goal.invariant-loop-a
invariant-loop-a l = l.top ≡ largest_at l.s l.a-index
