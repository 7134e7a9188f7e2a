use mathlib.Core.Path.{refl}
use Rattle.std.proofs.Common.{arith, ◌<◌}
use borrow.Author.Tests.{ne_eqb}
use Rattle.conditions.specs.Dnf.{node_terms}
use Rattle.conditions.specs.Tree.{node_of, node_at}
use Rattle.conditions.proofs.Terms.{linked_under, left_below, right_below}
use Rattle.conditions.proofs.tree.node_under.Goals as goal

pub returns-clause-terms : goal.returns-clause-terms
unfolding node_terms
returns-clause-terms c =
    let w = c.args.s.now in
    let some : 0 < c.args.link = omega arith in
    rw (c.wide-l.ensures, c.wide-r.ensures, c.at-2.ensures, c.at-3.ensures)
    (left_below w c.requires.sound c.args.link some, right_below w c.requires.sound c.args.link some, rw (← c.at-kind.ensures, ne_eqb _ _ c.if-kind-eq0.false, ne_eqb _ _ c.if-kind-eq-LEAF.false, ne_eqb _ _ c.if-kind-eq-AND.false) at (linked_under w c.requires.sound c.args.link some))

pub returns-clause-node : goal.returns-clause-node
unfolding node_at node_of
returns-clause-node c =
    rw (c.wide-l.ensures, c.wide-r.ensures, c.at-2.ensures, c.at-3.ensures, ne_eqb _ _ c.if-link-eq0.false, ← c.at-kind.ensures, ne_eqb _ _ c.if-kind-eq0.false, ne_eqb _ _ c.if-kind-eq-LEAF.false, ne_eqb _ _ c.if-kind-eq-AND.false) refl
