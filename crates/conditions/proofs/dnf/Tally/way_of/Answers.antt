use Rattle.conditions.proofs.Finding.{leaf_way, and_pos, two_way, one_left, one_right}
use Rattle.conditions.proofs.dnf.Tally.way_of.Goals as goal

pub nonzero_div-left : goal.nonzero_div-left
nonzero_div-left c =
    let d = rw c.in-Some-And.field-0-is at c.in-Some-And.ensures.terms in
    rw c.wide-n.ensures (and_pos _ _ _ _ c.args.self.now.tallied c.requires _ _ d.0 d.1 d.2)

pub nonzero_rem-right : goal.nonzero_rem-right
nonzero_rem-right c =
    let d = rw c.in-Some-And.field-0-is at c.in-Some-And.ensures.terms in
    rw c.wide-n.ensures (and_pos _ _ _ _ c.args.self.now.tallied c.requires _ _ d.0 d.1 d.2)

pub returns-in-Some-Leaf : goal.returns-in-Some-Leaf
returns-in-Some-Leaf c =
    let d = rw c.in-Some-Leaf.field-0-is at c.in-Some-Leaf.ensures.terms in
    leaf_way _ _ _ _ c.args.self.now.tallied c.requires _ d

pub returns-in-Some-And : goal.returns-in-Some-And
returns-in-Some-And c =
    let d = rw c.in-Some-And.field-0-is at c.in-Some-And.ensures.terms in
    rw c.wide-n.ensures (two_way _ _ _ _ c.args.self.now.tallied c.requires _ _ d.0 d.1 d.2)

pub returns-then-term-n : goal.returns-then-term-n
returns-then-term-n c =
    let d = rw c.in-Some-Or.field-0-is at c.in-Some-Or.ensures.terms in
    one_left _ _ _ _ c.args.self.now.tallied c.requires _ _ d.0 d.1 d.2 (rw c.wide-n-in-Some-Or.ensures at c.if-term-n.true)

pub returns-else-term-n : goal.returns-else-term-n
returns-else-term-n c =
    let d = rw c.in-Some-Or.field-0-is at c.in-Some-Or.ensures.terms in
    rw c.wide-n-in-Some-Or.ensures (one_right _ _ _ _ c.args.self.now.tallied c.requires _ _ d.0 d.1 d.2 (rw c.wide-n-in-Some-Or.ensures at c.if-term-n.false))
