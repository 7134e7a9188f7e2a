use native.Mathlib.Omega.{arith}
use Rattle.store.specs.Layout.{mirror_length, trail_length}
use Rattle.store.specs.Limits.{trail_room}
use Rattle.sync.proofs.decide_queue.touches.Goals as goal

pub overflow_add-result : goal.overflow_add-result
overflow_add-result c = omega (arith, c.at.ensures, c.length.ensures, c.requires.ranges mirror_length trail_room tt 0, c.requires.ranges trail_length trail_room tt 0)
