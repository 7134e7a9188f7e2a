use native.Mathlib.Omega.{arith}
use Rattle.store.specs.Layout.{trail_length}
use Rattle.store.specs.Limits.{trail_room}
use Rattle.sync.proofs.Turns.{copy_long, copy_kept, copy_turn}
use Rattle.sync.proofs.decide_queue.copy_entries.Goals as goal

pub variable_at-v-requires-clause-inside : goal.variable_at-v-requires-clause-inside
variable_at-v-requires-clause-inside c = omega (arith, c.loop-i-test.true, c.requires.the_length, c.requires.sound.ranges trail_length trail_room tt 0)

pub put-requires-clause-inside : goal.put-requires-clause-inside
put-requires-clause-inside c = omega (arith, c.loop-i-test.true, c.requires.the_length, c.requires.sound.ranges trail_length trail_room tt 0)

pub loop-i-preserved : goal.loop-i-preserved
loop-i-preserved c = (copy_long _ _ _ _ c.loop-i.invariant.0 c.loop-i.invariant.1 c.loop-i.invariant.2 _ _ c.variable_at-v.ensures c.put.ensures, copy_kept _ _ _ _ c.loop-i.invariant.0 c.loop-i.invariant.1 c.loop-i.invariant.2 _ _ c.variable_at-v.ensures c.put.ensures (omega (arith, c.loop-i-test.true, c.requires.the_length, c.requires.sound.ranges trail_length trail_room tt 0)), copy_turn _ _ _ _ c.loop-i.invariant.0 c.loop-i.invariant.1 c.loop-i.invariant.2 _ _ c.variable_at-v.ensures c.put.ensures c.loop-i-test.true)
