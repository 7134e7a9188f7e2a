use Rattle.std.proofs.Common.{rules, tests}
use Rattle.std.proofs.lemmas.Iterator.{YieldsList-from_slice}
use Rattle.std.proofs.lemmas.Iterator.Consumers.{YieldsList-from_copied}
use Rattle.std.proofs.lemmas.Iterator.Search.{find_from_yields_List}
use Rattle.std.proofs.lemmas.Iterator.Adapters.{option_map_id}
use Rattle.std.specs.List.{find}
use mathlib.Core.Path.{◌≡◌, ap, sym, ◌∙◌}
use native.Mathlib.Omega.{arith}
use lib.ListN.{length}
use Rattle.examine.proofs.Cells.{found_is}
use Rattle.examine.proofs.Scans.{list_first, list_dead}
use Rattle.examine.proofs.Small.{undecided_in, cells-few}
use Rattle.trail.specs.Assignment.{assigned}
use Rattle.examine.proofs.lists.list_frontier.Goals as goal

pub count_undecided-count-requires-clause-few : goal.count_undecided-count-requires-clause-few
count_undecided-count-requires-clause-few c = omega (arith, ap length c.candidates_of-cells.ensures.cells, cells-few c.args.s.now c.requires.sound c.args.slot)

pub returns-in-Some : goal.returns-in-Some
returns-in-Some c =
    let found : c.find.result ≡ find (undecided_in c.args.s.now) c.candidates_of-cells.result.now = sym (option_map_id _) ∙ find_from_yields_List (undecided_in c.args.s.now) _ _ c.find.result c.find.ensures.ran (YieldsList-from_copied (YieldsList-from_slice _ (cc))) (λ x b q k. search (rules, tests)) in
    list_first (assigned c.args.s.now) c.args.s.now _ _ c.candidates_of-cells.ensures.cells _ _ _ (sym (found ∙ found_is _ _) ∙ c.in-Some.is) c.name_at-name.ensures c.count_undecided-count.ensures

pub returns-in-None : goal.returns-in-None
returns-in-None c =
    let found : c.find.result ≡ find (undecided_in c.args.s.now) c.candidates_of-cells.result.now = sym (option_map_id _) ∙ find_from_yields_List (undecided_in c.args.s.now) _ _ c.find.result c.find.ensures.ran (YieldsList-from_copied (YieldsList-from_slice _ (cc))) (λ x b q k. search (rules, tests)) in
    list_dead (assigned c.args.s.now) c.args.s.now _ _ c.candidates_of-cells.ensures.cells (sym (found ∙ found_is _ _) ∙ c.in-None.is)
