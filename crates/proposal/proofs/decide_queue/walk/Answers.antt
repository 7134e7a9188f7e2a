use mathlib.Core.Path.{refl, sym, ◌∙◌}
use native.Mathlib.Omega.{arith}
use Rattle.proposal.proofs.Walking.{as_told, first-best, hand_ready, next_less, next_ready, sane-beside, sane-dead, sane-nothing, stage_beside, stage_dead, stage_ends, stage_first, stage_handed, stage_next, stage_open, stage_ready, stage_shut}
use Rattle.proposal.proofs.decide_queue.walk.Goals as goal

pub loop-k-init : goal.loop-k-init
loop-k-init c = stage_next _ _ _ _ _ _ _ (stage_first _ _ c.requires c.at-n.ensures) _ c.next_queued-k.ensures

pub examine_queued-requires : goal.examine_queued-requires
examine_queued-requires c = let r = stage_ready _ _ _ _ _ _ _ c.loop-k.invariant.0 c.loop-k-test.true in record { sound = r.0; known = rw c.wide.ensures r.1 }

pub overflow_add-d : goal.overflow_add-d
overflow_add-d c = omega (arith, c.loop-k.invariant.0.drops, c.loop-k.invariant.0.upto, c.loop-k.invariant.0.few)

pub best_of-b-requires : goal.best_of-b-requires
best_of-b-requires c = (stage_beside _ _ _ _ _ _ _ c.loop-k.invariant.0 c.loop-k-test.true (c.loop-k.invariant.1 c.loop-k-test.true) refl _ (rw c.wide.ensures at c.examine_queued.ensures.left)).sound.long

pub overflow_add-k : goal.overflow_add-k
overflow_add-k c = omega (arith, c.loop-k-test.true, c.loop-k.invariant.0.few)

pub walk_on-requires : goal.walk_on-requires
walk_on-requires c = let r = hand_ready _ _ _ _ _ _ _ (first-best _ _ _ _ _ _ _ _ _ _ (stage_open _ _ _ _ _ _ _ c.loop-k.invariant.0 c.loop-k-test.true (c.loop-k.invariant.1 c.loop-k-test.true) refl _ (rw c.wide.ensures at c.examine_queued.ensures.left) _ _ _ (rw c.wide.ensures at (sym c.examine_queued.ensures.found ∙ c.in-Open.is))) c.best_of-b.ensures) in record { sound = r.0; upto = r.1; fine = r.2; few = r.3 }

pub returns-in-Open : goal.returns-in-Open
returns-in-Open c = let here = first-best _ _ _ _ _ _ _ _ _ _ (stage_open _ _ _ _ _ _ _ c.loop-k.invariant.0 c.loop-k-test.true (c.loop-k.invariant.1 c.loop-k-test.true) refl _ (rw c.wide.ensures at c.examine_queued.ensures.left) _ _ _ (rw c.wide.ensures at (sym c.examine_queued.ensures.found ∙ c.in-Open.is))) c.best_of-b.ensures in record { walks = c.walk_on.ensures.walks ∙ stage_handed _ _ _ _ _ _ _ here; sane = sane-beside _ _ _ here.beside c.walk_on.ensures.sane }

pub died-requires : goal.died-requires
died-requires c = record { long = (stage_beside _ _ _ _ _ _ _ c.loop-k.invariant.0 c.loop-k-test.true (c.loop-k.invariant.1 c.loop-k-test.true) refl _ (rw c.wide.ensures at c.examine_queued.ensures.left)).sound.long; known = omega (arith, c.loop-k-test.true, c.loop-k.invariant.0.few) }

pub returns-in-Dead : goal.returns-in-Dead
returns-in-Dead c = let e = as_told _ _ _ _ _ c.died.ensures (stage_dead _ _ _ _ _ _ _ c.loop-k.invariant.0 c.loop-k-test.true (c.loop-k.invariant.1 c.loop-k-test.true) refl _ (rw c.wide.ensures at c.examine_queued.ensures.left) (rw c.wide.ensures at (sym c.examine_queued.ensures.found ∙ c.in-Dead.is))) (sane-dead _ _) in record { walks = e.0; sane = e.1 }

pub overflow_add-k-in-loop-k : goal.overflow_add-k-in-loop-k
overflow_add-k-in-loop-k c = omega (arith, c.loop-k-test.true, c.loop-k.invariant.0.few)

pub next_queued-k-requires-in-loop-k : goal.next_queued-k-requires-in-loop-k
next_queued-k-requires-in-loop-k c = let r = next_ready _ _ _ _ (stage_beside _ _ _ _ _ _ _ c.loop-k.invariant.0 c.loop-k-test.true (c.loop-k.invariant.1 c.loop-k-test.true) refl _ (rw c.wide.ensures at c.examine_queued.ensures.left)) (omega (arith, c.loop-k-test.true)) c.loop-k.invariant.0.size in record { sound = r.0; upto = r.1; the_count = r.2 }

pub loop-k-smaller : goal.loop-k-smaller
loop-k-smaller c = next_less _ _ _ _ c.loop-k-test.true c.next_queued-k-in-loop-k.ensures

pub loop-k-preserved : goal.loop-k-preserved
loop-k-preserved c = stage_next _ _ _ _ _ _ _ (stage_shut _ _ _ _ _ _ _ c.loop-k.invariant.0 c.loop-k-test.true (c.loop-k.invariant.1 c.loop-k-test.true) refl _ (rw c.wide.ensures at c.examine_queued.ensures.left) (rw c.wide.ensures at (sym c.examine_queued.ensures.found ∙ c.in-Shut.is))) _ c.next_queued-k-in-loop-k.ensures

pub returns : goal.returns
returns c = record { walks = stage_ends _ _ _ _ _ _ _ c.loop-k.invariant.0 c.loop-k-test.false; sane = sane-nothing _ }
