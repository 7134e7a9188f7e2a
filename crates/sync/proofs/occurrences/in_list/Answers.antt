use Rattle.std.proofs.Common.{rules, tests}
use Rattle.std.proofs.lemmas.Iterator.{YieldsList-from_slice}
use Rattle.std.proofs.lemmas.Iterator.Search.{any_from_yields_List}
use mathlib.Core.Path.{ap, ◌∙◌}
use Rattle.rules.specs.Sync.{meets}
use Rattle.rules.specs.Walk.{member}
use Rattle.sync.proofs.Occurring.{cells_any}
use Rattle.sync.proofs.occurrences.in_list.Goals as goal

pub returns : goal.returns
returns c =
    any_from_yields_List (λ v. member v c.args.touched.now) _ _ _ c.any.ensures.ran (YieldsList-from_slice c.candidates_of-cells.result.now (cc)) (λ x b q k. search (rules, tests))
    ∙ cells_any _ _ ∙ ap (meets c.args.touched.now) c.candidates_of-cells.ensures.cells
