use mathlib.Core.Path.{ap, ◌∙◌}
use mathlib.Core.Bool.{not}
use native.Mathlib.Omega.{arith}
use Rattle.tables.proofs.UnionLoading.{new_at_is}
use Rattle.tables.proofs.version_union.new_at.Goals as goal

pub returns : goal.returns
returns c = ap not c.contains.ensures.value ∙ new_at_is _ _ (omega arith)
