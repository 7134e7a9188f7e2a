use mathlib.Core.Path.{sym, ◌∙◌}
use native.Mathlib.Omega.{arith}
use Rattle.proposal.proofs.Walking.{as_told, next_less, next_ready, sane_choose, sane-dead, stage_begin, stage_ends, stage_next}
use Rattle.proposal.proofs.Weighing.{one_ends, weigh_ready, weighed-beside, weighed-dead, weighed_enough, weighed_on}
use Rattle.rules.specs.declared.Out.TheVariants.{Choose}
use Rattle.proposal.proofs.decide_queue.walk_on.Goals as goal

pub returns-then-first-eq1 : goal.returns-then-first-eq1
returns-then-first-eq1 c = let e = as_told _ _ _ _ _ c.chosen.ensures (one_ends _ _ _ _ c.requires.sound c.requires.upto c.requires.fine c.requires.few c.if-first-eq1.true) (sane_choose _ _ c.requires.fine) in record { walks = e.0; sane = e.1 }

pub loop-k-init : goal.loop-k-init
loop-k-init c = stage_next _ _ _ _ (Choose _) _ _ (stage_begin _ _ _ (Choose _) _ c.requires.sound c.at-n.ensures c.requires.upto (sane_choose _ _ c.requires.fine) c.requires.few) _ c.next_queued-k.ensures

pub weigh-requires : goal.weigh-requires
weigh-requires c = let r = weigh_ready _ _ _ _ _ _ _ c.loop-k.invariant.0 c.loop-k-test.true _ c.top-highest.ensures in record { sound = r.0; known = r.1; fine = r.2; the_highest = r.3 }

pub overflow_add-d : goal.overflow_add-d
overflow_add-d c = let e = weighed_on _ _ _ _ _ _ _ c.loop-k.invariant.0 c.loop-k-test.true (c.loop-k.invariant.1 c.loop-k-test.true) _ c.weigh.ensures.left _ _ (sym c.weigh.ensures.weighs ∙ c.in-On.is) in omega (arith, e.drops, e.upto, e.few)

pub returns-in-Enough : goal.returns-in-Enough
returns-in-Enough c = let e = as_told _ _ _ _ _ c.chosen-in-Enough.ensures (weighed_enough _ _ _ _ _ _ _ c.loop-k.invariant.0 c.loop-k-test.true (c.loop-k.invariant.1 c.loop-k-test.true) _ c.weigh.ensures.left (sym c.weigh.ensures.weighs ∙ c.in-Enough.is)) c.loop-k.invariant.0.sane in record { walks = e.0; sane = e.1 }

pub died-requires : goal.died-requires
died-requires c = record { long = (weighed-beside _ _ _ _ _ _ _ c.loop-k.invariant.0 c.loop-k-test.true (c.loop-k.invariant.1 c.loop-k-test.true) _ c.weigh.ensures.left).sound.long; known = omega (arith, c.loop-k-test.true, c.loop-k.invariant.0.few) }

pub returns-in-Dead : goal.returns-in-Dead
returns-in-Dead c = let e = as_told _ _ _ _ _ c.died.ensures (weighed-dead _ _ _ _ _ _ _ c.loop-k.invariant.0 c.loop-k-test.true (c.loop-k.invariant.1 c.loop-k-test.true) _ c.weigh.ensures.left (sym c.weigh.ensures.weighs ∙ c.in-Dead.is)) (sane-dead _ _) in record { walks = e.0; sane = e.1 }

pub overflow_add-k : goal.overflow_add-k
overflow_add-k c = omega (arith, c.loop-k-test.true, c.loop-k.invariant.0.few)

pub next_queued-k-requires-in-loop-k : goal.next_queued-k-requires-in-loop-k
next_queued-k-requires-in-loop-k c = let r = next_ready _ _ _ _ (weighed-beside _ _ _ _ _ _ _ c.loop-k.invariant.0 c.loop-k-test.true (c.loop-k.invariant.1 c.loop-k-test.true) _ c.weigh.ensures.left) (omega (arith, c.loop-k-test.true)) c.loop-k.invariant.0.size in record { sound = r.0; upto = r.1; the_count = r.2 }

pub loop-k-smaller : goal.loop-k-smaller
loop-k-smaller c = next_less _ _ _ _ c.loop-k-test.true c.next_queued-k-in-loop-k.ensures

pub loop-k-preserved : goal.loop-k-preserved
loop-k-preserved c = stage_next _ _ _ _ _ _ _ (weighed_on _ _ _ _ _ _ _ c.loop-k.invariant.0 c.loop-k-test.true (c.loop-k.invariant.1 c.loop-k-test.true) _ c.weigh.ensures.left _ _ (sym c.weigh.ensures.weighs ∙ c.in-On.is)) _ c.next_queued-k-in-loop-k.ensures

pub returns : goal.returns
returns c = let e = as_told _ _ _ _ _ c.chosen-2.ensures (stage_ends _ _ _ _ _ _ _ c.loop-k.invariant.0 c.loop-k-test.false) c.loop-k.invariant.0.sane in record { walks = e.0; sane = e.1 }
