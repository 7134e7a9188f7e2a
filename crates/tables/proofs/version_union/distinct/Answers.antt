use Rattle.std.proofs.Common.{rules, tests}
use Rattle.std.proofs.lemmas.Iterator.{YieldsList-from_range}
use Rattle.std.proofs.lemmas.Iterator.Search.{all_from_yields_List}
use mathlib.Core.Path.{refl, ◌∙◌}
use native.Mathlib.Omega.{arith}
use lib.ListN.{length}
use Rattle.rules.proofs.Loops.{all_from_is}
use Rattle.tables.specs.Union.{new_at, distinct}
use Rattle.tables.proofs.version_union.distinct.Goals as goal

pub returns : goal.returns
unfolding distinct
returns c =
    all_from_yields_List (new_at c.args.list.now) _ _ _ c.all.ensures.ran (YieldsList-from_range 0 _ (length c.args.list.now) refl (omega arith)) (λ x b q k. search (rules, tests))
    ∙ all_from_is _ _ _
