use Rattle.std.proofs.Common.{◌≡◌}
use Rattle.conditions.specs.Steps.{cells_to, lengths_left, cells_left}
use Rattle.conditions.proofs.dnf.Tally.write_terms.Given as goal

abbrev pub invariant-loop-index : goal.invariant-loop-index
invariant-loop-index l = record {
  here : l.from ≡ cells_to l.self.s.now l.link l.index;
  lengths_so : l.lengths ≡ lengths_left l.self.s.now l.link l.initial.lengths l.index;
  cells_so : l.cells ≡ cells_left l.self.s.now l.link l.initial.cells l.index;
}
