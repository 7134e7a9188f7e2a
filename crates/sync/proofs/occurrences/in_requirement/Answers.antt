use Rattle.std.proofs.Common.{rules, tests}
use Rattle.std.proofs.lemmas.Iterator.{YieldsList-from_range}
use Rattle.std.proofs.lemmas.Iterator.Search.{any_from_yields_List}
use mathlib.Core.Path.{refl, ap, ◌∙◌}
use Rattle.requirement.specs.Tables.{cells_of}
use Rattle.rules.specs.Sync.{meets}
use Rattle.rules.specs.Walk.{flattened}
use Rattle.sync.proofs.Occurring.{lists_any}
use Rattle.sync.proofs.occurrences.in_requirement.Goals as goal

pub returns : goal.returns
returns c =
    any_from_yields_List (λ i. meets c.args.touched.now (cells_of c.args.s.now i)) _ _ _ c.any.ensures.ran (YieldsList-from_range c.slots_of.result.start c.slots_of.result.end _ refl refl) (λ x b q k. search (rules, tests))
    ∙ lists_any c.args.touched.now c.args.s.now _ _ ∙ ap (λ cs. meets c.args.touched.now (flattened cs)) c.slots_of.ensures.whole
