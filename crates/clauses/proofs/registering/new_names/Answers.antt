use Rattle.std.proofs.Common.{rules, tests}
use Rattle.std.proofs.lemmas.Iterator.{YieldsList-from_range}
use Rattle.std.proofs.lemmas.Iterator.Consumers.{YieldsList-from_filter, count_from_yields_List}
use mathlib.Core.Path.{◌∙◌}
use native.Mathlib.Omega.{arith}
use Rattle.clauses.proofs.Naming.{names_counted}
use Rattle.clauses.specs.Names.{new_name}
use Rattle.clauses.proofs.registering.new_names.Goals as goal

pub returns : goal.returns
returns c =
    count_from_yields_List _ _ c.count.ensures.ran (YieldsList-from_filter _ (new_name c.args.s.now c.args.first) (YieldsList-from_range 0 c.args.n c.args.n (cc) (omega arith)) c.filter.ensures.closure (λ x b q k. search (rules, tests)))
    ∙ names_counted _ _ _
