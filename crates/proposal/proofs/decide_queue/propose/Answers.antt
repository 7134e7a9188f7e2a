use native.Mathlib.Omega.{arith}
use Rattle.proposal.proofs.Telling.{good-number, told_choose, told-dead, told-nothing, told_ready}
use Rattle.rules.proofs.FloatOrder.{no_nan_bits}
use Rattle.proposal.proofs.decide_queue.propose.Goals as goal

pub clause_at-clause-requires : goal.clause_at-clause-requires
clause_at-clause-requires c = let r = told_ready _ _ c.walk-walked.result c.requires c.walk-walked.ensures.walks _ _ c.in-Choose.is (c.walk-walked.ensures.sane.chosen _ c.in-Choose.is) c.wide.ensures in record { sound = r.0; known = r.1 }

pub float_from_bits-result : goal.float_from_bits-result
float_from_bits-result c = no_nan_bits _ (omega (arith, (c.walk-walked.ensures.sane.chosen _ c.in-Choose.is).activity≤))

pub returns-in-Nothing : goal.returns-in-Nothing
returns-in-Nothing c = let e = told-nothing _ _ c.walk-walked.result c.requires c.walk-walked.ensures.walks c.in-Nothing.is in record { answer = e.0; left = e.1; numbered = tt }

pub returns-in-Dead : goal.returns-in-Dead
returns-in-Dead c = let e = told-dead _ _ c.walk-walked.result c.requires c.walk-walked.ensures.walks _ c.in-Dead.is in record { answer = e.0; left = e.1; numbered = tt }

pub returns-in-Choose : goal.returns-in-Choose
returns-in-Choose c = let e = told_choose _ _ c.walk-walked.result c.requires c.walk-walked.ensures.walks _ _ _ c.in-Choose.is (c.walk-walked.ensures.sane.chosen _ c.in-Choose.is) c.wide.ensures c.clause_at-clause.ensures in record { answer = e.0; left = e.1; numbered = good-number _ (c.walk-walked.ensures.sane.chosen _ c.in-Choose.is).activity≤ }
