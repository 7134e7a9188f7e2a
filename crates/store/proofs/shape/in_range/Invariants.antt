use Rattle.std.proofs.Common.{◌≡◌, drop}
use Rattle.store.specs.Layout.{table}
use Rattle.store.specs.Shape.{in_range}
use Rattle.store.proofs.shape.in_range.Given as goal

abbrev pub invariant-loop-row : goal.invariant-loop-row
invariant-loop-row l = in_range table l.s ≡ in_range (drop l.row-index table) l.s
