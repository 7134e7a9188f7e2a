use mathlib.Core.Bool.{◌||◌}
use mathlib.Core.Path.{◌≡◌}
use Prim.Native.Nat.{ℕ, ◌-◌}
use Rattle.rules.specs.Numbers.{from}
use Rattle.rules.specs.Walk.{member}
use Rattle.sync.specs.Sync.{mirror_at, old_entries, touched_in}
use Rattle.trail.specs.Assignment.{variable_at}
use Rattle.sync.proofs.table.Touched.enter_touched.Given as goal

abbrev pub invariant-loop-k : goal.invariant-loop-k
invariant-loop-k l = (v : ℕ) → member v l.self || member v (from (mirror_at l.s) l.k (l.mirrored - l.k)) ≡ member v l.fn.self || member v (old_entries l.s)

abbrev pub invariant-loop-i : goal.invariant-loop-i
invariant-loop-i l = (v : ℕ) → member v l.self || member v (from (variable_at l.s) l.i (l.length - l.i)) ≡ member v l.fn.self || member v (touched_in l.s)
