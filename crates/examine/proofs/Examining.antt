-- What an examination keeps in a cache and finds, and the clause record that it reads. Assumes nothing.
use Rattle.std.specs.Prelude.{Some, None}
use mathlib.Core.Bool.{true, false, ◌&&◌}
use mathlib.Core.List.{List}
use mathlib.Core.Path.{◌≡◌, ap, sym, ◌∙◌}
use Prim.Native.Nat.{ℕ, ◌≤◌, ◌<◌}
use Rattle.meaning.proofs.Records.{clause-word, condition-most, parent-variable}
use Rattle.meaning.specs.Standing.{env_of, cache_of}
use Rattle.meaning.specs.View.{lists_at, literals_at}
use Rattle.examine.specs.Cache.{filled, clause_key, finding_at, saved}
use Rattle.rules.specs.Queue.{examine, state_in}
use Rattle.clauses.proofs.Kept.{key_back}
use Rattle.clauses.specs.Record.{clause_at}
use Rattle.clauses.specs.declared.Clause.{Clause}
use Rattle.requirement.specs.Tables.{key_of}
use Rattle.rules.specs.Walk.{active, all_false, evaluate, finding_of}
use Rattle.store.specs.Area.{at}
use Rattle.store.specs.Layout.{clause_conditions, clause_count, clause_parents, clause_requirements}
use Rattle.store.specs.Limits.{disjunctions, variables}
use Rattle.store.specs.Shape.{Sound}
use Rattle.rules.specs.declared.State.{State}
use Rattle.trail.specs.Assignment.{assigned, assigned_true}
use Rattle.rules.specs.declared.Finding.{Finding}
use Rattle.rules.specs.declared.Finding.TheVariants.{Shut}

-- an examination
module _ (w : List ℕ) (k : ℕ) where
  pub examine_shut : active (env_of w) (assigned w) k ≡ false → (Shut ≡ finding_at w k) × (w ≡ filled w k)
  unfolding finding_at filled examine
  examine_shut h = (rw (h, examine), rw h)

  module _ (l : k < at clause_count 0 w) (key : ℕ) (e : key ≡ at clause_requirements k w) (h : active (env_of w) (assigned w) k ≡ true) (t : State) (v : Finding) (q : v ≡ finding_of t) where
    is_key : key ≡ clause_key w k
    is_key = e ∙ sym (clause-word clause_requirements w k l)

    pub examine-known : cache_of w key ≡ Some t → (v ≡ finding_at w k) × (w ≡ filled w k)
    unfolding finding_at filled examine
    examine-known m =
        let n : cache_of w (clause_key w k) ≡ Some t = rw is_key at m in
        (q ∙ rw (h, examine, n, state_in), rw (h, n))

    pub examine-dirty : (s : List ℕ) → cache_of w key ≡ None → t ≡ evaluate (assigned w) (lists_at w key) → s ≡ saved w key t → (v ≡ finding_at w k) × (s ≡ filled w k)
    unfolding finding_at filled examine
    examine-dirty s m z p =
        let n : cache_of w (clause_key w k) ≡ None = rw is_key at m in
        let y : t ≡ evaluate (assigned w) (lists_at w (clause_key w k)) = rw is_key at z in
        (q ∙ rw (h, examine, n, state_in, y), p ∙ rw (h, n, is_key, y))

-- the record of a clause that there is: it is active as the definition says, its requirement one that there may be, with its key
module _ (w : List ℕ) (sound : Sound w) (k : ℕ) (l : k < at clause_count 0 w) (clause : Clause) (e : clause ≡ clause_at w k) where
  pub record_active : assigned_true w clause.parent && all_false (assigned w) (literals_at w clause.condition) ≡ active (env_of w) (assigned w) k
  unfolding clause_at
  record_active = rw (e, clause-word clause_parents w k l, clause-word clause_conditions w k l)

  pub record_parent : clause.parent < variables
  unfolding clause_at
  record_parent = parent-variable w sound k clause.parent (ap (λ (c : Clause). c.parent) e)

  pub record_condition : clause.condition ≤ disjunctions
  unfolding clause_at
  record_condition = condition-most w sound k clause.condition (ap (λ (c : Clause). c.condition) e)

  pub record_key : (key : ℕ) → key ≡ key_of clause.requirement → key ≡ at clause_requirements k w
  unfolding clause_at
  record_key key q = q ∙ ap (λ (c : Clause). key_of c.requirement) e ∙ key_back (at clause_requirements k w)
