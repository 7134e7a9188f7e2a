use Rattle.std.proofs.Common.{rules, tests}
use Rattle.std.proofs.lemmas.Iterator.{YieldsList-from_slice}
use Rattle.std.proofs.lemmas.Iterator.Consumers.{YieldsList-from_copied}
use Rattle.std.proofs.lemmas.Iterator.Search.{find_from_yields_List}
use Rattle.std.proofs.lemmas.Iterator.Adapters.{option_map_id}
use Rattle.std.specs.List.{find}
use mathlib.Core.Path.{◌≡◌, ap, sym, ◌∙◌}
use Rattle.rules.specs.Walk.{first_true}
use Rattle.trail.specs.Assignment.{assigned, assigned_true}
use Rattle.examine.proofs.Cells.{found_is}
use Rattle.examine.proofs.lists.list_true.Goals as goal

pub returns : goal.returns
returns c =
    let found : c.find.result ≡ find (assigned_true c.args.s.now) c.candidates_of-cells.result.now = sym (option_map_id _) ∙ find_from_yields_List (assigned_true c.args.s.now) _ _ c.find.result c.find.ensures.ran (YieldsList-from_copied (YieldsList-from_slice _ (cc))) (λ x b q k. search (rules, tests)) in
    found ∙ found_is _ _ ∙ ap (first_true (assigned c.args.s.now)) c.candidates_of-cells.ensures.cells
