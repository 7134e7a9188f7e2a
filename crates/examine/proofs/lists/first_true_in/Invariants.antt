use mathlib.Core.Path.{◌≡◌}
use Prim.Native.Nat.{◌-◌}
use Rattle.meaning.specs.View.{list_at}
use Rattle.rules.specs.Walk.{flattened, first_true}
use Rattle.trail.specs.Assignment.{assigned}
use Rattle.rules.specs.Numbers.{from}
use Rattle.examine.proofs.lists.first_true_in.Given as goal

abbrev pub invariant-loop-i : goal.invariant-loop-i
invariant-loop-i l = first_true (assigned l.s) (flattened (from (list_at l.s) l.slot (l.end - l.slot))) ≡ first_true (assigned l.s) (flattened (from (list_at l.s) l.i (l.end - l.i)))
