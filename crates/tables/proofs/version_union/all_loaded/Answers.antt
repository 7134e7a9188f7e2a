use Rattle.std.proofs.Common.{rules, tests}
use Rattle.std.proofs.lemmas.Iterator.{YieldsList-from_slice}
use Rattle.std.proofs.lemmas.Iterator.Search.{all_from_yields_List}
use mathlib.Core.Path.{◌∙◌}
use Rattle.store.proofs.Runs.{every_is}
use Rattle.tables.specs.VersionSet.{set_loaded}
use Rattle.tables.proofs.version_union.all_loaded.Goals as goal

pub returns : goal.returns
returns c =
    all_from_yields_List (set_loaded c.args.s.now) _ _ _ c.all.ensures.ran (YieldsList-from_slice c.args.members.now (cc)) (λ x b q k. search (rules, tests))
    ∙ every_is _ _
