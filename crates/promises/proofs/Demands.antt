-- DEMANDS 2 AND 3, FOR THE WORDS THAT THE CALLS READ AND WRITE. Assumes nothing.
use mathlib.Core.Bool.{false}
use mathlib.Core.List.{List, []}
use mathlib.Core.Path.{◌≡◌, refl, ap, sym, ◌∙◌, fun_ext}
use Prim.Native.Nat.{ℕ}
use lib.Dec.{eqb}
use Rattle.meaning.specs.Standing.{env_of, queue_of, store_of}
use Rattle.promises.proofs.Calling.{reached_genuine, reached_on, reached-sound}
use Rattle.imbolaverk.specs.Calls.{Call, ReachedWords, run}
use Rattle.promises.specs.Six.{SameButMode, SameClauses, SameSix, undropped}
use Rattle.proposal.proofs.Answers.{proposal_is, synced_store}
use Rattle.proposal.specs.Propose.{answer, told, unsynced, proposal_row}
use Rattle.rules.proofs.Demand.{reached_inv, synced_holds}
use Rattle.rules.specs.Invariant.{Holds}
use Rattle.rules.specs.Walk.{Environment, in_mode, walk}
use Rattle.store.specs.Limits.{names}
use Rattle.rules.specs.declared.Out.{Out}
use Rattle.rules.specs.declared.Out.TheVariants.{Nothing, Choose}
use Rattle.rules.specs.declared.Value.{Value}
use Rattle.trail.specs.Assignment.{assigned}
use Rattle.rules.specs.declared.Out.TheVariants as out
use Rattle.store.specs.Row.{answer_any}
use Rattle.std.specs.Prelude.{Ok}

-- the queue of a reached and synced store is right for the present assignment
pub reached-holds : (w : List ℕ) → ReachedWords w → unsynced w ≡ false → Holds (env_of w) (assigned w) [] (queue_of w)
reached-holds w r u =
    let g = reached_genuine w r in
    rw (fun_ext g.mapped.told) (synced_holds (store_of w) (reached_inv (store_of w) g.reached) (synced_store w g.sound u))

-- DEMAND 2: on a reached and synced store the proposal is the walk's, over the clauses, tables, activities, hot names and mode (`env_of w`)
-- and the present assignment alone; only the number of dropped clauses is the queue's
pub demand2 : (w : List ℕ) → ReachedWords w → unsynced w ≡ false → answer_any w (proposal_row w) ≡ Ok (told w (walk (env_of w) (assigned w)) (answer w).drops)
demand2 w r u = rw (reached-sound w r, u) (ap Ok (proposal_is w (reached_genuine w r).sound (reached-holds w r u)))

-- two stores that have all but the mode in common have one environment, but for the mode
env_but_mode : (w u : List ℕ) → SameButMode w u → env_of w ≡ in_mode (env_of u) (env_of w).standard
env_but_mode w u s =
    λ i.
    record {
      size = s.clauses_same.counts i;
      parent = fun_ext s.clauses_same.parents i;
      requirement = fun_ext s.clauses_same.requirements_same i;
      condition = fun_ext s.clauses_same.conditions i;
      clause_id = fun_ext s.clauses_same.ids i;
      lists = fun_ext s.tables_same i;
      activity = fun_ext s.activities_same i;
      names = names;
      hot = fun_ext (λ n. ap (λ x. eqb x 1) (s.hot_same n)) i;
      standard = (env_of w).standard;
      rule = 1;
    }

-- and are told the same of one answer
told_same : (w u : List ℕ) → SameClauses w u → (o : Out) (d e : ℕ) → undropped (Ok (told w o d)) ≡ undropped (Ok (told u o e))
told_same w u s Nothing d e = refl
told_same w u s (out.Dead c) d e = refl
told_same w u s (Choose b) d e = rw (s.parents b.clause, s.ids b.clause)

-- so they have one proposal where their walks answer alike
pub one_proposal : (w u : List ℕ) → ReachedWords w → ReachedWords u → unsynced w ≡ false → unsynced u ≡ false → SameButMode w u →
    walk (in_mode (env_of u) (env_of w).standard) (assigned u) ≡ walk (env_of u) (assigned u) → undropped (answer_any w (proposal_row w)) ≡ undropped (answer_any u (proposal_row u))
one_proposal w u r q x y s e =
    rw (demand2 w r x, demand2 u q y)
    (told_same w u s.clauses_same (walk (env_of w) (assigned w)) (answer w).drops (answer u).drops
    ∙ ap (λ (o : Out). undropped (Ok (told u o (answer u).drops)))
    (ap (λ (f : Environment). walk f (assigned w)) (env_but_mode w u s)
    ∙ ap (λ (a : ℕ → Value). walk (in_mode (env_of u) (env_of w).standard) a) (fun_ext s.assignments_same)
    ∙ e))

-- DEMAND 3: the proposal of a reached and synced store depends on the six things alone, and on no history
pub demand3 : (w u : List ℕ) → ReachedWords w → ReachedWords u → unsynced w ≡ false → unsynced u ≡ false → SameSix w u → undropped (answer_any w (proposal_row w)) ≡ undropped (answer_any u (proposal_row u))
demand3 w u r q x y s =
    one_proposal w u r q x y s.but_mode (ap (λ (m : ℕ). walk (in_mode (env_of u) (eqb m 1)) (assigned u)) s.mode_same)

-- THE BUTTON COMES BACK: she sees a proposal, then accepts, tries, asks and takes back, in any calls, refused ones included; once the six
-- things are as they were and the store is synced, the proposal that she left is there again
pub comes_back : (w : List ℕ) → ReachedWords w → unsynced w ≡ false → (tried : List Call) → unsynced (run w tried) ≡ false → SameSix w (run w tried) → undropped (answer_any (run w tried) (proposal_row (run w tried))) ≡ undropped (answer_any w (proposal_row w))
comes_back w r x tried y s = sym (demand3 w (run w tried) r (reached_on w r tried) x y s)
