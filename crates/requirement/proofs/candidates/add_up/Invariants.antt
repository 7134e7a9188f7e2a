use mathlib.Core.Path.{◌≡◌}
use lib.ListN.{drop}
use Rattle.requirement.specs.Load.{adds}
use Rattle.requirement.proofs.candidates.add_up.Given as goal

abbrev pub invariant-loop-length : goal.invariant-loop-length
invariant-loop-length l = adds l.lengths l.n ≡ adds (drop l.length-index l.lengths) l.rest
