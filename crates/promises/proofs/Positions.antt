-- POSITION ORDER FOR THE WORDS: the clauses of words that calls reach are, rank by rank, the registered ones by position. Assumes nothing.
use mathlib.Core.List.{List, [], ◌∷◌}
use mathlib.Core.Logic.{⊎_elim}
use mathlib.Core.Path.{◌≡◌, sym, ap, subst, ◌∙◌, fun_ext}
use Prim.Native.Nat.{ℕ, ◌≤◌, ◌<◌}
use borrow.Author.Tests.{le-leb}
use lib.ListN.{length}
use Rattle.clauses.proofs.Registers.{done-placed}
use Rattle.clauses.specs.Register.{Placed, condition_word, register_tests, registered, register_row}
use Rattle.meaning.proofs.Records.{clause-none}
use Rattle.meaning.specs.Standing.{env_of, of_clause, store_of}
use Rattle.meaning.specs.View.{literals_at}
use Rattle.promises.proofs.Rows.{judged-both}
use Rattle.promises.proofs.Calling.{call_genuine}
use Rattle.promises.proofs.Clauses.{by_outside, load_candidates-clauses, load_condition-clauses, load_disjunction_clauses, load_union_clauses, load_version_set_clauses}
use Rattle.promises.proofs.Genuine.{Genuine}
use Rattle.promises.proofs.Registering.{register_is}
use Rattle.promises.proofs.Starting.{fresh_genuine, fresh_is}
use Rattle.imbolaverk.specs.Calls.{Call, fresh, load_version_set, load_union, load_candidates, load_disjunction, load_condition, register, mark_hot, set_activity, set_mode, assign, undo_last, undo_until, next_unpropagated, sync, propose, ReachedWords, left_by, run, ask}
use Rattle.promises.specs.History.{filing, filings, history_of, if_done, if_done}
use Rattle.promises.specs.Six.{SameClauses}
use Rattle.requirement.specs.Tables.{key_at}
use Rattle.rules.proofs.Ranks.{at-rank}
use Rattle.rules.proofs.Placing.{fresh_position, register_position}
use Rattle.rules.specs.Numbers.{from}
use Rattle.rules.specs.Position.{History, InPosition, SameHistory, filed, no_history}
use Rattle.rules.specs.Store.{Store}
use Rattle.rules.proofs.Choice.{lt_or}
use Rattle.store.proofs.Rows.{judged_clear}
use Rattle.store.specs.Row.{guarded, answer_any, left_any}
use Rattle.store.specs.Area.{at}
use Rattle.store.specs.declared.area.Area.{Area}
use Rattle.store.specs.Fresh.{fresh_out, fresh_store, fresh_row}
use Rattle.store.specs.Layout.{clause_conditions, clause_count, clause_ids, clause_parents, clause_requirements, words}
use Rattle.std.specs.Prelude.{Ok, Err}

-- WORDS FOLLOW A HISTORY if their clauses are, rank by rank, the registered ones by position
abbrev Follows : List ℕ → History → Type 0
Follows w h = InPosition (env_of w) h

-- a call that keeps the clauses
stays : (s w : List ℕ) (h : History) → SameClauses s w → Follows w h → Follows s h
stays s w h c p =
    record {
      size_is = c.counts ∙ p.size_is;
      parents_are = (λ i. from (fun_ext c.parents i) 0 (c.counts i)) ∙ p.parents_are;
      requirements_are = (λ i. from (fun_ext c.requirements_same i) 0 (c.counts i)) ∙ p.requirements_are;
      conditions_are = (λ i. from (fun_ext c.conditions i) 0 (c.counts i)) ∙ p.conditions_are;
      clause_ids_are = (λ i. from (fun_ext c.ids i) 0 (c.counts i)) ∙ p.clause_ids_are;
    }

-- a fresh store
module _ (w : List ℕ) (long : words ≤ length w) where
  begins-follows : Follows (fresh_store w) no_history
  begins-follows = fresh_position (store_of (fresh_store w)) (fresh_is w long)

  made-done : fresh_out w ≡ Ok tt
  unfolding fresh_row
  made-done = rw (le-leb words (length w) long)

  fresh-follows : (h : History) → Follows (fresh_store w) (if_done (fresh_out w) no_history h)
  fresh-follows h = rw made-done begins-follows

-- a registration is document 01's, which keeps the position order
module _ (w : List ℕ) (parent key condition clause : ℕ) (h : History) (g : Genuine w) (f : Follows w h) where
  registered-follows : Placed w parent key condition → Follows (registered w parent key condition clause) (filed h parent key (literals_at w (condition_word condition)) clause)
  registered-follows p =
      let literals = literals_at w (condition_word condition) in
      subst (λ (t : Store). InPosition t.env (filed h parent key literals clause)) (sym (register_is w parent key condition clause p g.sound g.mapped))
      (register_position (store_of w) h parent key literals clause f)

register_follows : (w : List ℕ) (parent kind requirement condition clause : ℕ) (h : History) → Genuine w → Follows w h →
    Follows (left_any w (register_row w parent kind requirement condition clause)) (if_done (answer_any w (register_row w parent kind requirement condition 0)) (filed h parent (key_at kind requirement) (literals_at w (condition_word condition)) clause) h)
register_follows w parent kind requirement condition clause h g f =
    let tests = register_tests w parent kind requirement condition in
    judged-both (λ s r. Follows s (if_done r (filed h parent (key_at kind requirement) (literals_at w (condition_word condition)) clause) h)) (λ e. w) Err (guarded w tests) _ (Ok tt) (λ e. f)
    (λ p. registered-follows w parent (key_at kind requirement) condition clause h g f (done-placed w parent kind requirement condition (judged_clear Err tests (Ok tt) p.1)))

-- every call
call_follows : (w : List ℕ) (c : Call) (h : History) → Genuine w → Follows w h → Follows (left_by w c) (filing w c h)
unfolding filing
call_follows w fresh h g f = fresh-follows w g.sound.long h
call_follows w (load_version_set set name) h g f = stays _ w h (load_version_set_clauses w g set name) f
call_follows w (load_union union members) h g f = stays _ w h (load_union_clauses w g union members) f
call_follows w (load_candidates kind id lengths cells) h g f = stays _ w h (load_candidates-clauses w g kind id lengths cells) f
call_follows w (load_disjunction disjunction vs signs) h g f = stays _ w h (load_disjunction_clauses w g disjunction vs signs) f
call_follows w (load_condition node kind left right) h g f = stays _ w h (load_condition-clauses w g node kind left right) f
call_follows w (register parent kind requirement condition clause) h g f = register_follows w parent kind requirement condition clause h g f
call_follows w (mark_hot name) h g f = stays _ w h (by_outside w (mark_hot name) (tt, tt) (tt, tt)) f
call_follows w (set_activity name activity fit) h g f = stays _ w h (by_outside w (set_activity name activity fit) (tt, tt) (tt, tt)) f
call_follows w (set_mode mode) h g f = stays _ w h (by_outside w (set_mode mode) (tt, tt) (tt, tt)) f
call_follows w (assign variable value level clause) h g f = stays _ w h (by_outside w (assign variable value level clause) (tt, tt) (tt, tt)) f
call_follows w undo_last h g f = stays _ w h (by_outside w undo_last (tt, tt) (tt, tt)) f
call_follows w (undo_until level) h g f = stays _ w h (by_outside w (undo_until level) (tt, tt) (tt, tt)) f
call_follows w next_unpropagated h g f = stays _ w h (by_outside w next_unpropagated (tt, tt) (tt, tt)) f
call_follows w sync h g f = stays _ w h (by_outside w sync (tt, (tt, (tt, tt))) (tt, (tt, (tt, tt)))) f
call_follows w propose h g f = stays _ w h (by_outside w propose (tt, tt) (tt, tt)) f
call_follows w (ask q) h g f = f

run_follows : (w : List ℕ) (cs : List Call) (h : History) → Genuine w → Follows w h → Follows (run w cs) (filings w cs h)
unfolding run filings
run_follows w [] h g f = f
run_follows w (c ∷ cs) h g f = run_follows (left_by w c) cs (filing w c h) (call_genuine w c g) (call_follows w c h g f)

-- "A clause's position is its parent's number and then its own number under that parent; parents are numbered by their first
-- registration": after any calls the clauses, rank by rank, are the registered ones by position
pub position_order : (w : List ℕ) (r : ReachedWords w) → InPosition (env_of w) (history_of w r)
position_order w r =
    let made = fresh_store r.found in
    subst (λ (v : List ℕ). InPosition (env_of v) (history_of w r)) (sym r.is)
    (run_follows made r.calls no_history (fresh_genuine r.found r.long) (begins-follows r.found r.long))

-- however the registrations were interleaved: calls that filed the same clauses by position left the same clauses
module _ (w u : List ℕ) (r : ReachedWords w) (q : ReachedWords u) (h : SameHistory (history_of w r) (history_of u q)) where
  here : InPosition (env_of w) (history_of w r)
  here = position_order w r

  there : InPosition (env_of u) (history_of u q)
  there = position_order u q

  counted : at clause_count 0 w ≡ at clause_count 0 u
  counted = here.size_is ∙ h.count_same ∙ sym there.size_is

  by_rank_lem : {A : Type 0} (f g : ℕ → A) → from f 0 (at clause_count 0 w) ≡ from g 0 (at clause_count 0 u) → ((k : ℕ) → at clause_count 0 w ≤ k → f k ≡ g k) → (k : ℕ) → f k ≡ g k
  by_rank_lem f g e none k =
      ⊎_elim (λ (l : k < at clause_count 0 w). at-rank f g (at clause_count 0 w) k (e ∙ ap (from g 0) (sym counted)) l)
      (λ (l : at clause_count 0 w ≤ k). none k l) (lt_or k (at clause_count 0 w))

  none-there : (a : Area) (k : ℕ) → at clause_count 0 w ≤ k → of_clause a w k ≡ of_clause a u k
  none-there a k l = clause-none a w k l ∙ sym (clause-none a u k (rw counted at l))

  pub same_positions : SameClauses w u
  unfolding literals_at
  same_positions =
      record {
        counts = counted;
        parents = by_rank_lem _ _ (here.parents_are ∙ h.parents_same ∙ sym there.parents_are) (none-there clause_parents);
        requirements_same = by_rank_lem _ _ (here.requirements_are ∙ h.requirements_same ∙ sym there.requirements_are) (none-there clause_requirements);
        conditions =
            by_rank_lem _ _ (here.conditions_are ∙ h.conditions_same ∙ sym there.conditions_are)
            (λ k l. rw (clause-none clause_conditions w k l, clause-none clause_conditions u k (rw counted at l)));
        ids = by_rank_lem _ _ (here.clause_ids_are ∙ h.clause_ids_same ∙ sym there.clause_ids_are) (none-there clause_ids);
      }
