use Rattle.std.proofs.Common.{◌≡◌, ◌-◌, length}
use Rattle.rules.specs.Numbers.{all_from}
use Rattle.conditions.specs.Disjunct.{sane_at}
use Rattle.conditions.proofs.disjunct.Disjunct.are_sane.Given as goal

abbrev pub invariant-loop-j : goal.invariant-loop-j
invariant-loop-j l = all_from (sane_at l.self.kinds.now l.self.starts.now l.self.lengths.now l.self.cells.now) 0 (length l.self.kinds.now) ≡ all_from (sane_at l.self.kinds.now l.self.starts.now l.self.lengths.now l.self.cells.now) l.j (length l.self.kinds.now - l.j)
