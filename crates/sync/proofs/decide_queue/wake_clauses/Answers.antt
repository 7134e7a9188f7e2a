use mathlib.Core.Path.{◌∙◌}
use native.Mathlib.Omega.{arith}
use Rattle.store.specs.Layout.{clause_count, queued}
use Rattle.store.specs.Limits.{clauses}
use Rattle.sync.proofs.Sweeping.{sweep-none}
use Rattle.sync.proofs.Turns.{waking_sound, waking_done}
use Rattle.sync.specs.Sync.{wakes_at}
use Rattle.sync.proofs.decide_queue.wake_clauses.Goals as goal

pub loop-k-init : goal.loop-k-init
loop-k-init c = sweep-none queued (wakes_at c.args.s.now c.args.touched.now) 1 _

pub wakes-requires-clause-sound : goal.wakes-requires-clause-sound
wakes-requires-clause-sound c = waking_sound _ c.args.touched.now _ _ _ c.requires (c.wide-n.ensures ∙ c.at.ensures) c.loop-k.auto.k-end c.loop-k.invariant

pub put-requires : goal.put-requires
put-requires c = let long = ((waking_sound _ c.args.touched.now _ _ _ c.requires (c.wide-n.ensures ∙ c.at.ensures) c.loop-k.auto.k-end c.loop-k.invariant).long) in record { fits = omega (arith, long); inside = omega (arith, c.loop-k-test.true, c.wide-n.ensures ∙ c.at.ensures, c.requires.ranges clause_count clauses tt 0) }

pub returns : goal.returns
returns c = waking_done _ c.args.touched.now _ _ _ c.requires (c.wide-n.ensures ∙ c.at.ensures) c.loop-k.auto.k-end c.loop-k.invariant c.loop-k-test.false
