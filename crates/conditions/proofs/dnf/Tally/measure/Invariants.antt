use Rattle.std.proofs.Common.{◌≡◌, ◌*◌, ◌-◌, ◌≤◌}
use Rattle.rules.specs.Numbers.{all_from}
use Rattle.store.specs.Limits.{most_sets}
use Rattle.conditions.specs.Steps.{cells_to, short_at}
use Rattle.conditions.proofs.dnf.Tally.measure.Given as goal

abbrev pub invariant-loop-index : goal.invariant-loop-index
invariant-loop-index l = record {
  short : all_from (short_at l.self.s.now l.link) 0 l.n ≡ all_from (short_at l.self.s.now l.link) l.index (l.n - l.index);
  counted : l.total ≡ cells_to l.self.s.now l.link l.index;
  most : l.total ≤ most_sets * l.index;
}
