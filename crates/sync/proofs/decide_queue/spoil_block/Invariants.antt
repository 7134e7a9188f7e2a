use mathlib.Core.Path.{◌≡◌}
use Rattle.sync.specs.Sync.{spoiled_from}
use Rattle.sync.proofs.decide_queue.spoil_block.Given as goal

abbrev pub invariant-loop-key : goal.invariant-loop-key
invariant-loop-key l = l.s ≡ spoiled_from l.from l.initial.s l.touched l.key
