use Rattle.std.proofs.Common.{◌≡◌, arith, sym}
use Rattle.rules.proofs.Loops.{all_more, all_end}
use Rattle.conditions.proofs.Measuring.{is_short, cells_more}
use Rattle.conditions.proofs.dnf.Tally.measure.Goals as goal

pub loop-index-preserved : goal.loop-index-preserved
loop-index-preserved c =
    let l = c.loop-index in
    record {
      short = all_more _ _ _ l.invariant.short (omega arith) (is_short _ _ _ _ c.term_length-length.ensures (omega arith));
      counted = rw cells_more (omega arith);
      most = omega arith;
    }

pub returns : goal.returns
returns c =
    let l = c.loop-index in
    let all : l.index ≡ c.args.n = omega arith in
    (sym (all_end _ _ _ l.invariant.short (omega arith)), rw all at l.invariant.counted, omega (arith, l.invariant.most, c.requires.few))
