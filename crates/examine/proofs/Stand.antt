-- THE WORDS STAND FOR A QUEUE: an examination and a drop at the words are those of the queue, keep a store sound, and change nothing outside
-- the queue's region. Assumes nothing.
use Rattle.std.specs.Prelude.{Option, Some, None}
use mathlib.Core.Bool.{Bool, true, false, cond, ◌&&◌}
use mathlib.Core.List.{List}
use mathlib.Core.Logic.{◌≢◌}
use mathlib.Core.Path.{◌≡◌, refl, ap, fun_ext, ◌∙◌}
use Prim.Native.Nat.{ℕ, ◌≤◌, ◌<◌}
use native.Mathlib.Omega.{arith}
use borrow.Author.Tests.{eqb-true, eqb-false}
use lib.Dec.{T, eqb}
use lib.ListN.{length}
use Rattle.meaning.proofs.Records.{clause-inside, clause-word, key_below}
use Rattle.meaning.proofs.Frames.{assigned-same, env-same, caches_region}
use Rattle.meaning.specs.Standing.{env_of, mark_of, cache_by, cache_of, of_clause, queue_of}
use Rattle.meaning.specs.View.{lists_at}
use Rattle.examine.proofs.CacheLaws.{area-cached, length_cached, cache_else, cache-written, never_known-dead, sound-cached}
use Rattle.examine.proofs.Small.{Small, evaluate-small}
use Rattle.examine.specs.Cache.{cached, dropped, examined, filled, clause_key, finding_at, left_by, refreshed, saved, word_operations}
use Rattle.rules.proofs.Following.{Stands}
use Rattle.rules.specs.Queue.{fill, keep, examine, state_in, unmark}
use Rattle.rules.specs.Walk.{Environment, active, evaluate}
use Rattle.store.proofs.AreaLaws.{apart-inside, area_kept, at_kept, at-put_else, at-put-same, length_put}
use Rattle.store.proofs.Soundness.{sound-put}
use Rattle.store.specs.declared.area.Area.{Area}
use Rattle.store.specs.Area.{apart, area, at}
use Rattle.store.specs.Layout.{cache_candidates, cache_counts, cache_names, cache_states, clause_count, environment_region, map, queue_region, queued}
use Rattle.store.specs.Limits.{cell_room, last_name, last_variable}
use Rattle.store.specs.Shape.{Sound}
use Rattle.rules.specs.declared.State.{State}
use Rattle.rules.specs.declared.State.TheVariants.{Satisfied, Frontier}
use Rattle.rules.specs.declared.Value.{Value}
use Rattle.trail.specs.Assignment.{assigned}
use Rattle.rules.specs.declared.Finding.{Finding}
use Rattle.rules.specs.declared.Finding.TheVariants.{Shut, Open}
use Rattle.rules.specs.declared.State.TheVariants as state
use Rattle.rules.specs.declared.Finding.TheVariants as finding

-- an examination leaves the words, or writes its requirement's cache with numbers in range: what holds of both holds of what it leaves
module _ (P : List ℕ → Type 0) (w : List ℕ) (key : ℕ) (same : P w) (step : (state x n m : ℕ) → state ≤ 2 → x ≤ last_variable → n ≤ last_name → m ≤ cell_room → P (cached w key state x n m)) where
  refreshed-leaves : (m : (Option State)) (t : State) → Small t → P (refreshed w key m t)
  unfolding saved
  refreshed-leaves (Some u) t s = same
  refreshed-leaves None (Satisfied x) s = step 1 x 0 0 (omega arith) s (omega arith) (omega arith)
  refreshed-leaves None (Frontier x n m) s = step 2 x n m (omega arith) s.0 s.1 s.2
  refreshed-leaves None state.Dead s = same

module _ (w : List ℕ) (h : Sound w) (k : ℕ) where
  key : ℕ
  key = clause_key w k

  worked : State
  worked = evaluate (assigned w) (lists_at w key)

  filled-leaves : (P : List ℕ → Type 0) → P w → ((s x n m : ℕ) → s ≤ 2 → x ≤ last_variable → n ≤ last_name → m ≤ cell_room → P (cached w key s x n m)) → P (filled w k)
  unfolding filled key worked
  filled-leaves P same step = go (active (env_of w) (assigned w) k)
    where
      go : (b : Bool) → P (cond b (refreshed w key (cache_of w key) worked) w)
      go true = refreshed-leaves P w key same step (cache_of w key) worked (evaluate-small w h key)
      go false = same

  -- an examination keeps a store sound, and all but the caches
  pub filled-sound : Sound (filled w k)
  unfolding key
  filled-sound = filled-leaves Sound h (λ s x n m a b c d. sound-cached w key s x n m (key_below w k h) a b c d h)

  pub length_filled : length (filled w k) ≡ length w
  unfolding key
  length_filled = filled-leaves (λ u. length u ≡ length w) refl (λ s x n m a b c d. length_cached w key s x n m (key_below w k h))

  area-filled : (r : Area) → T (apart r caches_region) → area r (filled w k) ≡ area r w
  unfolding key
  area-filled r p = filled-leaves (λ u. area r u ≡ area r w) refl (λ s x n m a b c d. area-cached w key s x n m (key_below w k h) r p)

  pub filled-outside : (r : Area) → T (apart r queue_region) → area r (filled w k) ≡ area r w
  filled-outside r p = area-filled r (apart-inside r caches_region queue_region p tt)

  -- the cache that it fills, and the others
  cache-refreshed : (m : (Option State)) (t : State) → cache_of w key ≡ m → cache_of (refreshed w key m t) key ≡ keep (state_in m t)
  unfolding saved cache_by key
  cache-refreshed (Some (Satisfied x)) t e = e
  cache-refreshed (Some (Frontier x n m)) t e = e
  cache-refreshed (Some state.Dead) t e = absurd (never_known-dead w key e)
  cache-refreshed None (Satisfied x) e = cache-written w key 1 x 0 0 (key_below w k h) h.long
  cache-refreshed None (Frontier x n m) e = cache-written w key 2 x n m (key_below w k h) h.long
  cache-refreshed None state.Dead e = e

  cache-filled : (j : ℕ) → cache_of (filled w k) j ≡ (fill (env_of w) (assigned w) (queue_of w) k).cache j
  unfolding filled key worked
  cache-filled j = go (active (env_of w) (assigned w) k) (eqb j key) refl
    where
      go : (b c : Bool) → eqb j key ≡ c → cache_of (cond b (refreshed w key (cache_of w key) worked) w) j ≡ elim (b && c) as (λ _. (Option State)) [ true ↦ keep (state_in (cache_of w j) (evaluate (assigned w) (lists_at w j))) | false ↦ cache_of w j ]
      go true true e = rw (eqb-true j key e) (cache-refreshed (cache_of w key) worked refl)
      go true false e =
          refreshed-leaves (λ u. cache_of u j ≡ cache_of w j) w key refl
          (λ s x n m a b c d. cache_else w key s x n m (key_below w k h) j (eqb-false j key e))
          (cache_of w key) worked (evaluate-small w h key)
      go false c e = refl

  mark-filled : (j : ℕ) → mark_of (filled w k) j ≡ mark_of w j
  unfolding mark_of of_clause at
  mark-filled j = rw (area-filled queued tt, area-filled clause_count tt)

  -- the words after an examination stand for the queue that `fill` leaves
  pub fill_is : queue_of (filled w k) ≡ fill (env_of w) (assigned w) (queue_of w) k
  fill_is = λ i. record { mark = fun_ext mark-filled i; cache = fun_ext cache-filled i }

-- a drop
module _ (w : List ℕ) (h : Sound w) (k : ℕ) (l : k < at clause_count 0 w) where
  pub dropped-sound : Sound (dropped w k)
  dropped-sound = sound-put queued 1 k 0 w tt tt (clause-inside w h k l) (omega arith) h

  pub dropped-outside : (r : Area) → T (apart r queue_region) → area r (dropped w k) ≡ area r w
  dropped-outside r p = area_kept r queued k 0 w (apart-inside r queued queue_region p tt) (clause-inside w h k l)

  count_kept : at clause_count 0 (dropped w k) ≡ at clause_count 0 w
  count_kept = at_kept clause_count queued k 0 0 w tt (clause-inside w h k l)

  word-dropped : (j : ℕ) → j ≢ k → of_clause queued (dropped w k) j ≡ of_clause queued w j
  unfolding of_clause
  word-dropped j n = rw (count_kept, at-put_else queued k j 0 w (clause-inside w h k l) n)

  mark-dropped : (j : ℕ) (b : Bool) → eqb j k ≡ b → mark_of (dropped w k) j ≡ cond b false (mark_of w j)
  unfolding mark_of
  mark-dropped j true e = rw (eqb-true j k e, clause-word queued (dropped w k) k (rw count_kept l), at-put-same queued k 0 w (clause-inside w h k l) (omega (arith, h.long)))
  mark-dropped j false e = rw (word-dropped j (eqb-false j k e))

  cache-dropped : (j : ℕ) → cache_of (dropped w k) j ≡ cache_of w j
  unfolding cache_of
  cache-dropped j =
      rw (
        at_kept cache_states queued k j 0 w tt (clause-inside w h k l),
        at_kept cache_candidates queued k j 0 w tt (clause-inside w h k l),
        at_kept cache_names queued k j 0 w tt (clause-inside w h k l),
        at_kept cache_counts queued k j 0 w tt (clause-inside w h k l),
      )

  -- the words after a drop stand for the queue without the clause
  pub drop_is : queue_of (dropped w k) ≡ unmark (queue_of w) k
  drop_is = λ i. record { mark = fun_ext (λ j. mark-dropped j (eqb j k) refl) i; cache = fun_ext cache-dropped i }

-- a sound store that differs from another in the queue's region at most
pub record Beside (s w : List ℕ) : Type 0 where
  pub sound : Sound s
  pub outside : (a : Area) → T (apart a queue_region) → area a s ≡ area a w
  pub size : length s ≡ length w

pub beside_self : (w : List ℕ) → Sound w → Beside w w
beside_self w h = record { sound = h; outside = λ a p. refl; size = refl }

-- it has the same clauses, tables and settings, the same assignment, and reads the same elsewhere
module _ (s w : List ℕ) (g : Beside s w) where
  pub env-beside : env_of s ≡ env_of w
  env-beside = env-same s w (g.outside environment_region tt)

  pub assigned-beside : assigned s ≡ assigned w
  assigned-beside = assigned-same s w (g.outside map tt)

  pub at-beside : (a : Area) → T (apart a queue_region) → (i : ℕ) → at a i s ≡ at a i w
  unfolding at
  at-beside a p i = rw (g.outside a p)

  pub clause-beside : (k : ℕ) → k < at clause_count 0 w → k < at clause_count 0 s
  clause-beside k l = rw (at-beside clause_count tt 0) l

  pub beside-filled : (k : ℕ) → Beside (filled s k) w
  beside-filled k =
      record {
        sound = filled-sound s g.sound k;
        outside = λ a p. filled-outside s g.sound k a p ∙ g.outside a p;
        size = length_filled s g.sound k ∙ g.size;
      }

  pub beside-dropped : (k : ℕ) → k < at clause_count 0 w → Beside (dropped s k) w
  beside-dropped k l =
      record {
        sound = dropped-sound s g.sound k (clause-beside k l);
        outside = λ a p. dropped-outside s g.sound k (clause-beside k l) a p ∙ g.outside a p;
        size = length_put queued k 0 s ∙ g.size;
      }

-- what the examination of a queued clause leaves
pub beside-examined : (s w : List ℕ) → Beside s w → (k : ℕ) → k < at clause_count 0 w → Beside (examined s k) w
unfolding examined
beside-examined s w g k l = go (finding_at s k)
  where
    go : (v : Finding) → Beside (left_by v (filled s k) (dropped (filled s k) k)) w
    go Shut = beside-dropped (filled s k) w (beside-filled s w g k) k l
    go (Open x n m) = beside-filled s w g k
    go finding.Dead = beside-filled s w g k

-- THE SIX FACTS: the words stand for a queue, at the environment and the assignment of the store that the walk began with
pub stands : (w : List ℕ) → Stands word_operations (env_of w) (assigned w) queue_of (λ s. Beside s w)
unfolding finding_at
stands w =
    record {
      mark_is = λ s k l g. refl;
      examine_is =
          λ s k l g.
          ap (λ (e : Environment). examine e (assigned s) (queue_of s) k) (env-beside s w g)
          ∙ ap (λ (a : ℕ → Value). examine (env_of w) a (queue_of s) k) (assigned-beside s w g);
      fill_is =
          λ s k l g.
          fill_is s g.sound k
          ∙ ap (λ (e : Environment). fill e (assigned s) (queue_of s) k) (env-beside s w g)
          ∙ ap (λ (a : ℕ → Value). fill (env_of w) a (queue_of s) k) (assigned-beside s w g);
      drop_is = λ s k l g. drop_is s g.sound k (clause-beside s w g k l);
      fill_keeps = λ s k l g. beside-filled s w g k;
      drop_keeps = λ s k l g. beside-dropped s w g k l;
    }
