use mathlib.Core.Path.{◌≡◌}
use Prim.Native.Nat.{◌-◌}
use lib.ListN.{length}
use Rattle.trail.specs.Assignment.{variable_at}
use Rattle.rules.specs.Numbers.{from}
use Rattle.store.specs.Area.{area, put_run}
use Rattle.store.specs.Layout.{mirror, trail_variables}
use Rattle.sync.specs.Sync.{copied_words}
use Rattle.sync.proofs.decide_queue.copy_entries.Given as goal

abbrev pub invariant-loop-i : goal.invariant-loop-i
invariant-loop-i l = (length l.s ≡ length l.initial.s) × (area trail_variables l.s ≡ area trail_variables l.initial.s) × (copied_words l.initial.s ≡ put_run mirror l.i (from (variable_at l.initial.s) l.i (l.len - l.i)) l.s)
