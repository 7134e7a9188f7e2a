use Rattle.std.proofs.Common.{length, get_or}
use Rattle.store.proofs.Counting.{Counted}
use Rattle.store.specs.Shape.{is_cell}
use Rattle.store.proofs.shape.all_cells.Given as goal

abbrev pub invariant-loop-x : goal.invariant-loop-x
invariant-loop-x l = Counted (λ k. is_cell (get_or l.list k 0)) (length l.list) l.x-index l.bad
