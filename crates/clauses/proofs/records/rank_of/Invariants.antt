use mathlib.Core.Path.{◌≡◌}
use Rattle.clauses.specs.Record.{parent_at}
use Rattle.rules.specs.Store.{behind}
use Rattle.clauses.proofs.records.rank_of.Given as goal

abbrev pub invariant-loop-k : goal.invariant-loop-k
invariant-loop-k l = behind (parent_at l.s) l.parent l.n l.n ≡ behind (parent_at l.s) l.parent l.k l.n
