use mathlib.Core.Path.{◌≡◌, refl, ap, ◌∙◌}
use Prim.Native.Nat.{◌+◌, ◌*◌}
use native.Mathlib.Omega.{arith}
use Rattle.sync.proofs.Turns.{spoiling_block, spoiling_done, dirty-block}
use Rattle.sync.specs.Sync.{block, spoiled_from}
use Rattle.sync.proofs.decide_queue.spoil_caches.Goals as goal
use Rattle.sync.proofs.decide_queue.spoil_caches.Goals.{then-not-all_dirty, else-not-all_dirty}

pub loop-i-preserved : goal.loop-i-preserved
loop-i-preserved c =
    let next : c.loop-i.i * block + block ≡ (c.loop-i.i + 1) * block = omega arith in
    spoiling_block _ c.args.touched.now _ 0 _ c.requires (omega arith) c.loop-i.invariant (omega arith) _ (elim c.if-not-all_dirty.branch [ then-not-all_dirty w ↦ w.s-is ∙ w.spoil_block.ensures | else-not-all_dirty w ↦ w.s-is ∙ dirty-block _ _ _ (c.all_dirty.ensures w.if-not-all_dirty.false) ])
    ∙ ap (spoiled_from 0 _ c.args.touched.now) next

pub returns : goal.returns
returns c = spoiling_done _ c.args.touched.now _ 0 _ c.requires (omega arith) c.loop-i.invariant refl (omega arith)
