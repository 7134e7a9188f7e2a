use Rattle.std.proofs.Common.{◌<◌, ◌≢◌, ◌∙◌, length, arith, get_or-set_other, get_or-set_same, length-set, below_more}
use Rattle.conditions.proofs.dnf.Tally.of.Goals as goal

pub loop-link-preserved : goal.loop-link-preserved
loop-link-preserved c = record {
  sized = simp length-set c.loop-link.invariant.sized;
  counted =
      let lt : c.loop-link.link < length c.loop-link.counts = omega arith in
      below_more _ _
      (λ k h. let ne : k ≢ c.loop-link.link = omega arith in rw get_or-set_other (c.loop-link.invariant.counted k h))
      (get_or-set_same c.loop-link.counts c.loop-link.link c.count_under.result 0 lt ∙ c.count_under.ensures);
}
