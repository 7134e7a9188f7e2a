use mathlib.Core.Path.{◌≡◌}
use mathlib.Core.Bool.{true}
use Prim.Native.Nat.{◌-◌, ◌<◌}
use Rattle.meaning.specs.Standing.{mark_of}
use Rattle.proposal.proofs.Walking.{Stage}
use Rattle.proposal.specs.Propose.{choosing, from_rank}
use Rattle.rules.specs.declared.Out.TheVariants.{Choose}
use Rattle.proposal.proofs.decide_queue.walk_on.Given as goal

abbrev pub invariant-loop-k : goal.invariant-loop-k
invariant-loop-k l = Stage l.initial.s l.s l.n l.k (Choose l.b) l.d (from_rank l.initial.s (choosing l.initial.b l.initial.d) l.from l.initial.s) × (l.k < l.n → mark_of l.s l.k ≡ true)

abbrev pub decreases-loop-k : goal.decreases-loop-k
decreases-loop-k l = l.n - l.k
