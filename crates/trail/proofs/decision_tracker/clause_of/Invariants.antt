use Rattle.std.proofs.Common.{◌≡◌, ◌-◌}
use Rattle.rules.specs.Numbers.{first_from}
use Rattle.trail.specs.Entries.{entry_of}
use Rattle.trail.proofs.decision_tracker.clause_of.Given as goal

abbrev pub invariant-loop-k : goal.invariant-loop-k
invariant-loop-k l = first_from (entry_of l.s l.variable) 0 l.n ≡ first_from (entry_of l.s l.variable) l.k (l.n - l.k)
