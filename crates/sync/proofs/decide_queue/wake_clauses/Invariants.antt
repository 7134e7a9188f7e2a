use mathlib.Core.Path.{◌≡◌}
use Rattle.store.specs.Layout.{queued}
use Rattle.sync.specs.Sweep.{sweep}
use Rattle.sync.specs.Sync.{wakes_at}
use Rattle.sync.proofs.decide_queue.wake_clauses.Given as goal

abbrev pub invariant-loop-k : goal.invariant-loop-k
invariant-loop-k l = l.s ≡ sweep queued (wakes_at l.initial.s l.touched) 1 l.initial.s l.k
