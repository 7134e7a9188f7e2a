use Rattle.std.proofs.Common.{◌≡◌, ◌-◌}
use Rattle.rules.specs.Numbers.{all_from}
use Rattle.trail.specs.Entries.{entry_above}
use Rattle.trail.proofs.decision_tracker.no_stop.Given as goal

abbrev pub invariant-loop-k : goal.invariant-loop-k
invariant-loop-k l = all_from (entry_above l.s l.level) 0 l.n ≡ all_from (entry_above l.s l.level) l.k (l.n - l.k)
