use Rattle.std.proofs.Common.{◌≡◌, ◌+◌, length}
use Rattle.store.specs.Limits.{nodes}
use Rattle.conditions.specs.Ways.{CountedBelow}
use Rattle.conditions.proofs.dnf.Tally.of.Given as goal

abbrev pub invariant-loop-link : goal.invariant-loop-link
invariant-loop-link l = record { sized : length l.counts ≡ nodes + 1; counted : CountedBelow l.s l.link l.counts }
