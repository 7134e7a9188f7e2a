use Rattle.std.proofs.Common.{rules, tests}
use Rattle.std.proofs.lemmas.Iterator.{YieldsList-from_range}
use Rattle.std.proofs.lemmas.Iterator.Search.{all_from_yields_List}
use mathlib.Core.Path.{refl, ◌∙◌}
use native.Mathlib.Omega.{arith}
use Rattle.clauses.specs.Names.{new_name, other_name}
use Rattle.rules.proofs.Loops.{all_from_is}
use Rattle.clauses.proofs.registering.new_name.Goals as goal

pub returns : goal.returns
unfolding new_name other_name
returns c =
    all_from_yields_List (other_name c.args.s.now c.args.first c.args.i) _ _ _ c.all.ensures.ran (YieldsList-from_range 0 _ c.args.i refl (omega arith)) (λ x b q k. search (rules, tests))
    ∙ all_from_is _ _ _
