use mathlib.Core.Bool.{◌||◌}
use mathlib.Core.Path.{◌∙◌}
use native.Mathlib.Omega.{arith}
use Rattle.rules.specs.Walk.{member}
use Rattle.store.specs.Layout.{mirror_length, trail_length}
use Rattle.store.specs.Limits.{trail_room}
use Rattle.sync.specs.Sync.{mirror_at, old_entries, touched_in}
use Rattle.trail.specs.Assignment.{variable_at}
use Rattle.sync.proofs.Touched.{old_first, new_next, enter_turn, enter_done}
use Rattle.sync.proofs.table.Touched.enter_touched.Goals as goal

pub loop-k-init : goal.loop-k-init
loop-k-init c = old_first c.args.s.now c.args.self.now c.args.self.now _ _ (c.wide-floor.ensures ∙ c.floor.ensures) (c.wide-mirrored.ensures ∙ c.at.ensures)

pub at-requires-in-loop-k-clause-inside : goal.at-requires-in-loop-k-clause-inside
at-requires-in-loop-k-clause-inside c = omega (arith, c.loop-k-test.true, c.wide-mirrored.ensures ∙ c.at.ensures, c.requires.ranges mirror_length trail_room tt 0)

pub loop-k-preserved : goal.loop-k-preserved
loop-k-preserved c = enter_turn (λ v. member v c.args.self.now || member v (old_entries c.args.s.now)) (mirror_at c.args.s.now) _ _ _ c.loop-k.invariant _ c.at-in-loop-k.ensures _ c.enter.ensures c.loop-k-test.true

pub loop-i-init : goal.loop-i-init
loop-i-init c = new_next c.args.s.now c.args.self.now _ _ _ (c.wide-floor.ensures ∙ c.floor.ensures) (c.wide-length.ensures ∙ c.length.ensures) (enter_done (λ v. member v c.args.self.now || member v (old_entries c.args.s.now)) (mirror_at c.args.s.now) _ _ _ c.loop-k.invariant c.loop-k-test.false)

pub variable_at-requires-clause-inside : goal.variable_at-requires-clause-inside
variable_at-requires-clause-inside c = omega (arith, c.loop-i-test.true, c.wide-length.ensures ∙ c.length.ensures, c.requires.ranges trail_length trail_room tt 0)

pub loop-i-preserved : goal.loop-i-preserved
loop-i-preserved c = enter_turn (λ v. member v c.args.self.now || member v (touched_in c.args.s.now)) (variable_at c.args.s.now) _ _ _ c.loop-i.invariant _ c.variable_at.ensures _ c.enter-in-loop-i.ensures c.loop-i-test.true

pub returns : goal.returns
returns c = enter_done (λ v. member v c.args.self.now || member v (touched_in c.args.s.now)) (variable_at c.args.s.now) _ _ _ c.loop-i.invariant c.loop-i-test.false
