use Rattle.std.proofs.Common.{rules, tests}
use Rattle.std.proofs.lemmas.Iterator.{YieldsList-from_range}
use Rattle.std.proofs.lemmas.Iterator.Search.{any_from_yields_List}
use mathlib.Core.Path.{refl, ◌∙◌}
use native.Mathlib.Omega.{arith}
use Rattle.rules.specs.Walk.{member}
use Rattle.store.specs.Area.{at}
use Rattle.store.specs.Layout.{literal_variables}
use Rattle.sync.proofs.Occurring.{literals_any}
use Rattle.sync.proofs.occurrences.in_literals.Goals as goal

pub returns : goal.returns
returns c =
    any_from_yields_List (λ i. member (at literal_variables i c.args.s.now) c.args.touched.now) _ _ _ c.any.ensures.ran (YieldsList-from_range c.args.start _ c.args.n refl (omega arith)) (λ x b q k. search (rules, tests))
    ∙ literals_any _ _ _ _
