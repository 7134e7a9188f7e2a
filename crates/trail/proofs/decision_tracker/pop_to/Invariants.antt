use Rattle.trail.proofs.Popping.{Popping}
use Rattle.trail.specs.Entries.{entries}
use Rattle.trail.proofs.decision_tracker.pop_to.Given as goal

abbrev pub invariant-loop-s : goal.invariant-loop-s
invariant-loop-s l = Popping l.level l.initial.s l.s

abbrev pub decreases-loop-s : goal.decreases-loop-s
decreases-loop-s l = entries l.s
