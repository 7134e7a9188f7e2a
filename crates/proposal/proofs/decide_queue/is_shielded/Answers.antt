use native.Mathlib.Omega.{arith}
use Rattle.meaning.proofs.Records.{clause-inside}
use Rattle.proposal.proofs.decide_queue.is_shielded.Goals as goal

pub at-above-requires-clause-inside : goal.at-above-requires-clause-inside
at-above-requires-clause-inside c = omega (arith, c.wide.ensures, clause-inside _ c.requires.sound _ c.requires.best_known)

pub at-parent-requires-clause-inside : goal.at-parent-requires-clause-inside
at-parent-requires-clause-inside c = clause-inside _ c.requires.sound _ c.requires.known
