use Rattle.std.proofs.Common.{rules}
use Rattle.std.proofs.iter.runs.Sources.{sums}
use Rattle.std.specs.List.{sum_by}
use mathlib.Core.Bool.{cond}
use mathlib.Core.Path.{◌≡◌, ◌∙◌}
use Rattle.examine.proofs.Cells.{undecided_sum}
use Rattle.examine.proofs.Small.{undecided_in}
use Rattle.examine.proofs.lists.count_undecided.Goals as goal

pub returns : goal.returns
returns c =
    let summed : c.sum.result ≡ sum_by (λ v. cond (undecided_in c.args.s.now v) 1 0) c.args.cells.now = search (rules, sums) in
    summed ∙ undecided_sum _ _
