use Rattle.std.proofs.Common.{◌≡◌, drop}
use Rattle.conditions.specs.Truth.{some}
use Rattle.trail.specs.Assignment.{assigned_true}
use Rattle.conditions.proofs.disjunct.some_true.Given as goal

abbrev pub invariant-loop-v : goal.invariant-loop-v
invariant-loop-v l = some (assigned_true l.s) l.list ≡ some (assigned_true l.s) (drop l.v-index l.list)
