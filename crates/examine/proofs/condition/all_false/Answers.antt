use Rattle.std.proofs.Common.{rules, tests}
use Rattle.std.proofs.lemmas.Iterator.{YieldsList-from_range}
use Rattle.std.proofs.lemmas.Iterator.Search.{all_from_yields_List}
use mathlib.Core.Path.{refl, ◌∙◌}
use native.Mathlib.Omega.{arith}
use Rattle.meaning.specs.View.{literal_at}
use Rattle.rules.specs.Walk.{literal_false}
use Rattle.trail.specs.Assignment.{assigned}
use Rattle.examine.proofs.Literals.{all_false_is}
use Rattle.examine.proofs.condition.all_false.Goals as goal

pub returns : goal.returns
returns c =
    all_from_yields_List (λ i. literal_false (assigned c.args.s.now) (literal_at c.args.s.now i)) _ _ _ c.all.ensures.ran (YieldsList-from_range c.args.start _ c.args.n refl (omega arith)) (λ x b q k. search (rules, tests))
    ∙ all_false_is _ _ _ _
