use mathlib.Core.Path.{sym, ◌∙◌}
use Rattle.proposal.proofs.Walking.{best-good}
use Rattle.proposal.proofs.Weighing.{examined-beside, weigh_open}
use Rattle.proposal.proofs.decide_queue.weigh.Goals as goal

pub better_of-requires-clause-d_stored : goal.better_of-requires-clause-d_stored
better_of-requires-clause-d_stored c = best-good _ _ _ _ _ _ (examined-beside _ _ _ (sym c.stops.ensures ∙ c.if-stops.false) _ c.wide-k.ensures (sym c.passed_over.ensures ∙ c.if-passed_over.false) _ c.examine_queued.ensures.left c.requires.sound c.requires.known).sound c.best_of-d.ensures

pub returns-in-Open-clause-weighs : goal.returns-in-Open-clause-weighs
returns-in-Open-clause-weighs c = weigh_open _ _ _ (sym c.stops.ensures ∙ c.if-stops.false) _ c.wide-k.ensures (sym c.passed_over.ensures ∙ c.if-passed_over.false) _ c.examine_queued.ensures.left c.requires.sound c.requires.known _ _ _ _ _ (sym c.examine_queued.ensures.found ∙ c.in-Open.is) c.best_of-d.ensures c.better_of.ensures
