use Rattle.std.proofs.Common.{arith, rules, length, ◌<◌, ◌≡◌, get_or, ◌∙◌, sym, [], ◌∷◌}
use Rattle.std.proofs.lemmas.List.{length-append}
use Rattle.std.proofs.lemmas.Slice.Zip.{zip_turn, zip_end}
use Rattle.conditions.proofs.Candidates.{paired_to, paired, part_inside, part_named, part_holds}
use Rattle.rules.proofs.Loops.{all_fail, all_more, all_end}
use Rattle.conditions.proofs.disjunct.Disjunct.all_hold.Goals as goal
use Rattle.conditions.proofs.disjunct.Disjunct.all_hold.Goals.{In-Some}

turn : (c : In-Some) → ((length c.loop-start.yielded < length c.args.self.now.starts.now) × (c.in-Some.start.now ≡ get_or c.args.self.now.starts.now (length c.loop-start.yielded) 0)) × (c.in-Some.n.now ≡ get_or c.args.self.now.lengths.now (length c.loop-start.yielded) 0)
turn c =
    let t = zip_turn c.args.self.now.starts.now c.args.self.now.lengths.now c.loop-start.yielded c.into_iter-start-iterator.result _ c.next.new.self _ (search rules) (search rules) c.loop-start.yielded_by _ c.in-Some.is c.next.ensures.steps in
    ((t.0, t.2 0), t.3 0)

pub slice_bounds-some_true-end : goal.slice_bounds-some_true-end
slice_bounds-some_true-end c =
    let t = turn (goal.at.slice_bounds-some_true-end c).In-Some in
    omega (arith, part_inside _ _ _ _ c.requires.sane _ _ _ t.0.0 t.0.1 t.1, c.wide-from.ensures, c.wide.ensures)

pub some_true-requires-clause-list_value : goal.some_true-requires-clause-list_value
some_true-requires-clause-list_value c =
    let t = turn (goal.at.some_true-requires-clause-list_value c).In-Some in
    part_named _ _ _ _ c.requires.sane _ _ _ t.0.0 (c.wide-from.ensures ∙ t.0.1) (c.wide.ensures ∙ t.1)

pub returns-then-not-some_true : goal.returns-then-not-some_true
returns-then-not-some_true c =
    let t = turn (goal.at.returns-then-not-some_true c).In-Some in
    all_fail _ _ _ c.loop-start.invariant (paired _ _ _ _ c.requires.sane _ _ _ t.0.0 t.0.1 t.1) (sym (c.some_true.ensures ∙ part_holds _ _ _ _ c.requires.sane _ _ _ t.0.0 (c.wide-from.ensures ∙ t.0.1) (c.wide.ensures ∙ t.1) _) ∙ c.if-not-some_true.true)

pub loop-start-preserved : goal.loop-start-preserved
loop-start-preserved c =
    let t = turn (goal.at.loop-start-preserved c).In-Some in
    let m = all_more _ _ _ c.loop-start.invariant (paired _ _ _ _ c.requires.sane _ _ _ t.0.0 t.0.1 t.1) (sym (c.some_true.ensures ∙ part_holds _ _ _ _ c.requires.sane _ _ _ t.0.0 (c.wide-from.ensures ∙ t.0.1) (c.wide.ensures ∙ t.1) _) ∙ c.if-not-some_true.false) in
    rw (length-append c.loop-start.yielded ((c.in-Some.start, c.in-Some.n) ∷ [])) m

pub returns : goal.returns
returns c =
    let e = zip_end c.args.self.now.starts.now c.args.self.now.lengths.now c.loop-start.yielded c.into_iter-start-iterator.result _ c.next.new.self _ (search rules) (search rules) c.loop-start.yielded_by c.in-None.is c.next.ensures.steps in
    all_end _ _ _ c.loop-start.invariant (paired_to _ _ _ _ c.requires.sane _ e)
