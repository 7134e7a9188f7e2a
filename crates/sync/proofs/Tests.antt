-- Which clauses wake and which caches become dirty: by the words that are read, in other words, and for other lists of the same
-- variables. Assumes nothing.
use Rattle.std.specs.Prelude.{Option, Some, None}
use mathlib.Core.Bool.{false}
use mathlib.Core.List.{List}
use mathlib.Core.Path.{◌≡◌, refl, ap, ◌∙◌, fun_ext}
use Prim.Native.Nat.{ℕ, ◌≤◌}
use borrow.Author.Tests.{le-ltb}
use Rattle.meaning.proofs.Frames.{lists-same, env-same, assigned-same}
use Rattle.meaning.specs.Standing.{of_clause, env_of, cache_of, mark_of, queue_of}
use Rattle.meaning.specs.View.{lists_at, literals_at}
use Rattle.rules.proofs.Sweeps.{meets-same, mentions-same, broken-same}
use Rattle.rules.specs.Sync.{meets, woken, spoils}
use Rattle.rules.specs.Walk.{Environment, CandidateList, flattened, member}
use Rattle.rules.specs.declared.State.{State}
use Rattle.rules.specs.declared.State.TheVariants.{Satisfied, Frontier}
use Rattle.meaning.proofs.Records.{cache-dirty}
use Rattle.store.specs.Area.{area, at}
use Rattle.store.proofs.AreaLaws.{area_same}
use Rattle.store.specs.Layout.{cache_states, cache_candidates, cache_names, cache_counts, map, clause_count, clause_parents, clause_requirements, clause_conditions, environment_region, tables_region}
use Rattle.sync.specs.Sync.{wakes_at, spoils_at}
use Rattle.rules.specs.declared.Value.{Value}
use Rattle.trail.specs.Assignment.{assigned}
use Rattle.rules.specs.declared.State.TheVariants as state

-- a dirty cache stays, and a clause that there is not sleeps
pub dirty-stays : (w : List ℕ) (key state : ℕ) → state ≡ at cache_states key w → (W : List ℕ) → state ≡ 0 → false ≡ spoils_at w W key
unfolding spoils_at
dirty-stays w key state is W h = rw (← cache-dirty w key state is h)

module _ (w W : List ℕ) (k : ℕ) where
  pub none_wakes : at clause_count 0 w ≤ k → wakes_at w W k ≡ false
  unfolding wakes_at
  none_wakes h = rw (le-ltb k (at clause_count 0 w) h)

-- IN OTHER WORDS that have the same clauses, tables, assignment and cache
pub cache_kept : (s w : List ℕ) (key : ℕ) → at cache_states key s ≡ at cache_states key w → area cache_candidates s ≡ area cache_candidates w → area cache_names s ≡ area cache_names w → area cache_counts s ≡ area cache_counts w → cache_of s key ≡ cache_of w key
unfolding cache_of at
cache_kept s w key a b c d = rw (a, b, c, d)

module _ (s w : List ℕ) (e : area environment_region s ≡ area environment_region w) (m : area map s ≡ area map w) (W : List ℕ) where
  pub wakes_kept : ((key : ℕ) → cache_of s key ≡ cache_of w key) → (k : ℕ) → wakes_at s W k ≡ wakes_at w W k
  unfolding wakes_at
  wakes_kept q k =
      ap (λ (f : Environment). woken f (assigned s) W (queue_of s) k) (env-same s w e)
      ∙ ap (λ (a : ℕ → Value). woken (env_of w) a W (queue_of s) k) (assigned-same s w m)
      ∙ ap (λ (f : ℕ → (Option State)). woken (env_of w) (assigned w) W (record { mark = mark_of w; cache = f }) k) (fun_ext q)

  pub spoils_kept : (key : ℕ) → cache_of s key ≡ cache_of w key → spoils_at s W key ≡ spoils_at w W key
  unfolding spoils_at
  spoils_kept key q =
      ap (λ (a : ℕ → Value). spoils a W (lists_at s key) (cache_of s key)) (assigned-same s w m)
      ∙ ap (λ (cs : List CandidateList). spoils (assigned w) W cs (cache_of s key)) (lists-same s w (area_same tables_region environment_region s w tt e) key)
      ∙ ap (spoils (assigned w) W (lists_at w key)) q

-- FOR OTHER LISTS of the same variables
module _ (W U : List ℕ) (same : (v : ℕ) → member v W ≡ member v U) (w : List ℕ) where
  pub wakes_alike : (k : ℕ) → wakes_at w W k ≡ wakes_at w U k
  unfolding wakes_at
  wakes_alike k =
      rw (
        same (of_clause clause_parents w k),
        mentions-same W U same (literals_at w (of_clause clause_conditions w k)),
        broken-same W U same (assigned w) (lists_at w (of_clause clause_requirements w k)) (cache_of w (of_clause clause_requirements w k)),
      )

  pub spoils_alike : (key : ℕ) → spoils_at w W key ≡ spoils_at w U key
  unfolding spoils_at
  spoils_alike key = go (cache_of w key)
    where
      here : meets W (flattened (lists_at w key)) ≡ meets U (flattened (lists_at w key))
      here = meets-same W U same (flattened (lists_at w key))

      go : (m : (Option State)) → spoils (assigned w) W (lists_at w key) m ≡ spoils (assigned w) U (lists_at w key) m
      go None = refl
      go (Some (Satisfied x)) = rw here
      go (Some (Frontier x n c)) = here
      go (Some state.Dead) = here
