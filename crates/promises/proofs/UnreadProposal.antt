-- THE PROPOSAL ASKS THE STATED WORDS ALONE: two slices that agree on them are walked alike, step by step, and left alike there. Assumes nothing.
use Rattle.std.specs.Prelude.{Option, Some, None}
use mathlib.Core.Bool.{not}
use mathlib.Core.List.{List}
use mathlib.Core.Path.{◌≡◌, refl, ap, subst}
use Prim.Native.Nat.{ℕ}
use Rattle.meaning.proofs.Frames.{assigned-same, cache-same, caches_region, clause-same, env-same, lists-same, mark_same, queue-same}
use Rattle.meaning.specs.Standing.{cache_of, env_of, mark_of, of_clause, queue_of}
use Rattle.meaning.specs.View.{lists_at}
use Rattle.examine.specs.Cache.{cache_writes, cached, clause_key, filled, refreshed, saved, finding_at, word_operations}
use Rattle.imbolaverk.specs.Calls.{number_of, propose, values_of}
use Rattle.promises.proofs.UnreadWords.{Alike, area_alike, at_alike, either_alike, put_alike, puts_alike, sound_alike}
use Rattle.proposal.specs.Propose.{answer, proposal_answer, proposal_left, told, unsynced, proposal_row}
use Rattle.rules.proofs.Following.{Follows, both-walk}
use Rattle.rules.specs.Walk.{Environment, active, evaluate}
use Rattle.rules.specs.Queue.{Answer, queued_walk}
use Rattle.store.specs.Codes.{frontier, satisfied}
use Rattle.store.specs.Layout.{clause_count, clause_ids, clause_parents, clause_requirements, clauses_region, environment_region, map, queue_region, queued, tables_region}
use Rattle.store.specs.Shape.{sound_shape}
use Rattle.rules.specs.declared.State.{State}
use Rattle.rules.specs.declared.State.TheVariants.{Satisfied, Frontier}
use Rattle.rules.specs.declared.Out.{Out}
use Rattle.rules.specs.declared.Out.TheVariants.{Nothing, Choose}
use Rattle.trail.specs.Assignment.{assigned}
use Rattle.rules.specs.declared.State.TheVariants as state
use Rattle.rules.specs.declared.Out.TheVariants as out
use Rattle.store.specs.Row.{left_any}

-- a cache that is filled
saved_alike : (key : ℕ) (t : State) (w u : List ℕ) → Alike w u → Alike (saved w key t) (saved u key t)
unfolding saved cached
saved_alike key (Satisfied x) w u e = puts_alike (cache_writes key satisfied x 0 0) w u e
saved_alike key (Frontier x n m) w u e = puts_alike (cache_writes key frontier x n m) w u e
saved_alike key state.Dead w u e = e

refreshed_alike : (key : ℕ) (c : (Option State)) (t : State) (w u : List ℕ) → Alike w u → Alike (refreshed w key c t) (refreshed u key c t)
refreshed_alike key None t w u e = saved_alike key t w u e
refreshed_alike key (Some s) t w u e = e

-- they stand for the same clauses, tables and settings, the same assignment and the same queue
module _ (w u : List ℕ) (e : Alike w u) where
  pub env_alike : env_of w ≡ env_of u
  env_alike = env-same w u (area_alike w u e environment_region refl)

  pub assigned_alike : assigned w ≡ assigned u
  assigned_alike = assigned-same w u (area_alike w u e map refl)

  pub queue_alike : queue_of w ≡ queue_of u
  queue_alike = queue-same w u (area_alike w u e queue_region refl) (at_alike w u e clause_count 0 refl)

  mark-alike : (k : ℕ) → mark_of w k ≡ mark_of u k
  mark-alike = mark_same w u (area_alike w u e queue_region refl) (at_alike w u e clause_count 0 refl)

  seen_alike : (k : ℕ) → finding_at w k ≡ finding_at u k
  unfolding finding_at
  seen_alike k = rw (env_alike, assigned_alike, queue_alike)

  pub cache_alike : (key : ℕ) → cache_of w key ≡ cache_of u key
  cache_alike = cache-same w u (area_alike w u e caches_region refl)

  pub lists_alike : (key : ℕ) → lists_at w key ≡ lists_at u key
  lists_alike = lists-same w u (area_alike w u e tables_region refl)

  key-alike : (k : ℕ) → clause_key w k ≡ clause_key u k
  key-alike = clause-same w u (area_alike w u e clauses_region refl) clause_requirements tt

  active-alike : (k : ℕ) → active (env_of w) (assigned w) k ≡ active (env_of u) (assigned u) k
  active-alike k = λ i. active (env_alike i) (assigned_alike i) k

  filled-alike : (k : ℕ) → Alike (filled w k) (filled u k)
  unfolding filled
  filled-alike k =
      rw (active-alike k, assigned_alike, key-alike k, cache_alike (clause_key u k), lists_alike (clause_key u k))
      (either_alike (active (env_of u) (assigned u) k) _ _ w u (refreshed_alike (clause_key u k) (cache_of u (clause_key u k)) (evaluate (assigned u) (lists_at u (clause_key u k))) w u e) e)

-- every step of the walk
steps_alike : (v : Environment) → Follows word_operations word_operations v Alike
steps_alike v =
    record {
      mark_same = λ s q k l r. mark-alike s q r k;
      examine_same = λ s q k l r. seen_alike s q r k;
      fill_same = λ s q k l r. filled-alike s q r k;
      drop_same = λ s q k l r. put_alike queued k 0 s q r;
    }

-- the same answer, the same drops, and words that are alike
abbrev Same : Answer (List ℕ) → Answer (List ℕ) → Type 0
Same x y = (x.out ≡ y.out) × (x.drops ≡ y.drops) × Alike x.left y.left

-- the walk with given clauses, tables and settings
abbrev walked : List ℕ → Environment → Answer (List ℕ)
walked s v = queued_walk word_operations v s

told_alike : (w u : List ℕ) (o : Out) (d : ℕ) → of_clause clause_parents w ≡ of_clause clause_parents u → of_clause clause_ids w ≡ of_clause clause_ids u → told w o d ≡ told u o d
told_alike w u Nothing d p c = refl
told_alike w u (out.Dead id) d p c = refl
told_alike w u (Choose b) d p c = rw (p, c)

module _ (w u : List ℕ) (e : Alike w u) where
  walk-alike : Same (answer w) (answer u)
  unfolding answer
  walk-alike =
      subst (λ (v : Environment). Same (answer w) (walked u v)) (env_alike w u e)
      (both-walk word_operations word_operations (env_of w) Alike (steps_alike (env_of w)) w u e)

  unsynced-alike : unsynced w ≡ unsynced u
  unfolding unsynced
  unsynced-alike = simp (at_alike w u e)

  told-so : proposal_answer w ≡ proposal_answer u
  unfolding proposal_answer
  told-so =
      rw (walk-alike.0, walk-alike.1)
      (told_alike w u (answer u).out (answer u).drops (ap (λ (v : Environment). v.parent) (env_alike w u e)) (ap (λ (v : Environment). v.clause_id) (env_alike w u e)))

  pub proposal_answers : (number_of w propose ≡ number_of u propose) × (values_of w propose ≡ values_of u propose)
  proposal_answers = (simp (sound_alike w u e, unsynced-alike, told-so), simp (sound_alike w u e, unsynced-alike, told-so))

  pub proposal_left_lem : Alike (left_any w (proposal_row w)) (left_any u (proposal_row u))
  unfolding proposal_left
  proposal_left_lem =
      rw (sound_alike w u e, unsynced-alike)
      (either_alike (not (sound_shape u)) w u _ _ e (either_alike (unsynced u) w u _ _ e walk-alike.2))
