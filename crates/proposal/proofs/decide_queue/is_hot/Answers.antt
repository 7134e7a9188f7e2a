use Rattle.std.proofs.Common.{rules, tests}
use Rattle.std.proofs.lemmas.Iterator.{YieldsList-from_range}
use Rattle.std.proofs.lemmas.Iterator.Search.{any_from_yields_List}
use mathlib.Core.Path.{refl, ◌∙◌}
use Rattle.meaning.proofs.Records.{clause-inside, requirement-below}
use Rattle.meaning.specs.Standing.{env_of}
use Rattle.requirement.specs.Tables.{name_of, set_of}
use Rattle.proposal.proofs.Steps.{any_hot_is, hot-is}
use Rattle.proposal.proofs.decide_queue.is_hot.Goals as goal

pub at-requires-clause-inside : goal.at-requires-clause-inside
at-requires-clause-inside c = clause-inside _ c.requires.sound _ c.requires.known

pub slots_of-requires-clause-known : goal.slots_of-requires-clause-known
slots_of-requires-clause-known c = requirement-below _ c.requires.sound _ _ (c.wide-key.ensures ∙ c.at.ensures)

pub returns : goal.returns
returns c =
    any_from_yields_List (λ i. (env_of c.args.s.now).hot (name_of c.args.s.now (set_of c.args.s.now i))) _ _ _ c.any.ensures.ran (YieldsList-from_range c.slots_of.result.start c.slots_of.result.end _ refl refl) (λ x b q k. search (rules, tests))
    ∙ any_hot_is c.args.s.now _ _ ∙ hot-is _ _ _ _ c.requires.known (c.wide-key.ensures ∙ c.at.ensures) c.slots_of.ensures.whole
