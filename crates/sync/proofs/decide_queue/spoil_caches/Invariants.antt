use mathlib.Core.Path.{◌≡◌}
use Prim.Native.Nat.{◌*◌}
use Rattle.sync.specs.Sync.{block, spoiled_from}
use Rattle.sync.proofs.decide_queue.spoil_caches.Given as goal

abbrev pub invariant-loop-i : goal.invariant-loop-i
invariant-loop-i l = l.s ≡ spoiled_from 0 l.initial.s l.touched (l.i * block)
