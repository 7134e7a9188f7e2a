use mathlib.Core.Path.{sym, ◌∙◌}
use borrow.Author.Tests.{le-leb}
use Rattle.store.proofs.Counting.{every_lower}
use Rattle.store.proofs.shape.within.Goals as goal

pub returns-then-ceiling-most : goal.returns-then-ceiling-most
returns-then-ceiling-most c = le-leb _ _ c.if-ceiling-most.true ∙ sym (every_lower _ _ _ c.ceiling.ensures c.if-ceiling-most.true)
