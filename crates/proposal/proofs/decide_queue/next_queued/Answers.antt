use native.Mathlib.Omega.{arith}
use Rattle.meaning.proofs.Records.{clause-inside}
use Rattle.meaning.specs.Standing.{mark_of}
use Rattle.rules.proofs.Loops.{from-none}
use Rattle.proposal.proofs.decide_queue.next_queued.Goals as goal

pub at-requires-clause-inside : goal.at-requires-clause-inside
at-requires-clause-inside c = clause-inside _ c.requires.sound _ (omega (arith, c.wide.ensures, c.requires.the_count))

pub returns : goal.returns
returns c = from-none (mark_of c.args.s.now) _ _ _ c.loop-i.invariant (omega (arith, c.requires.upto)) c.loop-i-test.false
