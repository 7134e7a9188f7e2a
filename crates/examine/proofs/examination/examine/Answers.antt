use mathlib.Core.Path.{sym, ◌∙◌}
use Rattle.examine.proofs.Examining.{examine-dirty, examine-known, examine_shut, record_active, record_condition, record_key, record_parent}
use Rattle.meaning.proofs.Records.{clause-inside, requirement-below}
use Rattle.examine.proofs.examination.examine.Goals as goal

pub clause_at-clause-requires : goal.clause_at-clause-requires
clause_at-clause-requires c = record { sound = c.requires.sound; known = clause-inside _ c.requires.sound _ c.requires.known }

pub is_active-requires-clause-parent_known : goal.is_active-requires-clause-parent_known
is_active-requires-clause-parent_known c = record_parent _ c.requires.sound _ c.requires.known _ c.clause_at-clause.ensures

pub is_active-requires-clause-condition_known : goal.is_active-requires-clause-condition_known
is_active-requires-clause-condition_known c = record_condition _ c.requires.sound _ c.requires.known _ c.clause_at-clause.ensures

pub returns-then-not-is_active : goal.returns-then-not-is_active
returns-then-not-is_active c =
    let e = examine_shut _ _ (sym (record_active _ c.requires.sound _ c.requires.known _ c.clause_at-clause.ensures) ∙ sym c.is_active.ensures ∙ c.if-not-is_active.true) in
    record { found = e.0; left = e.1 }

pub recall-requires-clause-known : goal.recall-requires-clause-known
recall-requires-clause-known c = requirement-below _ c.requires.sound _ _ (record_key _ c.requires.sound _ c.requires.known _ c.clause_at-clause.ensures _ c.key-key.ensures)

pub eval_at-state-requires-clause-known : goal.eval_at-state-requires-clause-known
eval_at-state-requires-clause-known c = requirement-below _ c.requires.sound _ _ (record_key _ c.requires.sound _ c.requires.known _ c.clause_at-clause.ensures _ c.key-key.ensures)

pub save-requires-clause-known : goal.save-requires-clause-known
save-requires-clause-known c = requirement-below _ c.requires.sound _ _ (record_key _ c.requires.sound _ c.requires.known _ c.clause_at-clause.ensures _ c.key-key.ensures)

pub returns-in-Some : goal.returns-in-Some
returns-in-Some c =
    let e = examine-known _ _ c.requires.known _ (record_key _ c.requires.sound _ c.requires.known _ c.clause_at-clause.ensures _ c.key-key.ensures)
    (sym (record_active _ c.requires.sound _ c.requires.known _ c.clause_at-clause.ensures) ∙ sym c.is_active.ensures ∙ c.if-not-is_active.false) _ _ c.from.ensures (sym c.recall.ensures ∙ c.in-Some.is) in
    record { found = e.0; left = e.1 }

pub returns-in-None : goal.returns-in-None
returns-in-None c =
    let e = examine-dirty _ _ c.requires.known _ (record_key _ c.requires.sound _ c.requires.known _ c.clause_at-clause.ensures _ c.key-key.ensures)
    (sym (record_active _ c.requires.sound _ c.requires.known _ c.clause_at-clause.ensures) ∙ sym c.is_active.ensures ∙ c.if-not-is_active.false) _ _ c.from-in-None.ensures _ (sym c.recall.ensures ∙ c.in-None.is)
    c.eval_at-state.ensures c.save.ensures in
    record { found = e.0; left = e.1 }
