use Rattle.std.proofs.Common.{◌≡◌, ◌-◌, length}
use Rattle.rules.specs.Numbers.{all_from}
use Rattle.conditions.specs.Disjunct.{holds_at}
use Rattle.conditions.proofs.disjunct.Disjunct.all_hold.Given as goal

abbrev pub invariant-loop-start : goal.invariant-loop-start
invariant-loop-start l = all_from (holds_at l.s l.self.starts.now l.self.lengths.now l.self.cells.now) 0 (length l.self.kinds.now) ≡ all_from (holds_at l.s l.self.starts.now l.self.lengths.now l.self.cells.now) (length l.yielded) (length l.self.kinds.now - length l.yielded)
