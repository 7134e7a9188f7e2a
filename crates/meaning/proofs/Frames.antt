-- STORES THAT AGREE ON A REGION stand for the same clauses, tables and settings, the same assignment, queue, trail and mirror.
-- Assumes nothing.
use mathlib.Core.Bool.{Bool}
use mathlib.Core.List.{List}
use mathlib.Core.Path.{◌≡◌, refl, ap, ◌∙◌, fun_ext}
use Prim.Native.Nat.{ℕ, ◌-◌}
use lib.Dec.{T, eqb}
use Rattle.meaning.specs.Standing.{entry_at, env_of, mark_of, cache_of, mirror_of, of_clause, queue_of, store_of, trail_of}
use Rattle.meaning.specs.View.{list_at, lists_at, literal_at, literals_at}
use Rattle.requirement.specs.Tables.{cells_of, first_slot, list_count, set_count, set_of}
use Rattle.rules.specs.Store.{tuned}
use Rattle.store.proofs.AreaLaws.{area_same, at_same, within}
use Rattle.store.specs.declared.area.Area.{Area}
use Rattle.store.specs.Area.{area, at}
use Rattle.store.specs.Layout.{activities, cache_candidates, cache_counts, cache_names, cache_states, candidates, clause_conditions, clause_count, clause_ids, clause_parents, clause_requirements, clauses_region, disjunction_sizes, disjunction_starts, environment_region, hot_names, list_lengths, list_starts, literal_signs, literal_variables, map, mirror, mirror_length, mirror_region, mode, queue_region, queued, region, set_names, tables_loaded, tables_region, trail_length, trail_region, trail_values, trail_variables, union_sets, union_sizes}
use Rattle.store.specs.Limits.{names, version_sets}
use Rattle.trail.specs.Assignment.{assigned}
use Rattle.rules.proofs.Froms.{from-same}

-- the lists and the literals, by the tables alone
module _ (s w : List ℕ) (e : area tables_region s ≡ area tables_region w) where
  here : (a : Area) → T (within a tables_region) → (i : ℕ) → at a i s ≡ at a i w
  here a t i = at_same a tables_region s w t e i

  set_same : (slot : ℕ) → set_of s slot ≡ set_of w slot
  unfolding set_of
  set_same slot = rw (here union_sets tt (slot - version_sets))

  list_same : (slot : ℕ) → list_at s slot ≡ list_at w slot
  unfolding list_at cells_of
  list_same slot =
      rw (set_same slot, here set_names tt (set_of w slot), here list_lengths tt slot, here list_starts tt slot, area_same candidates tables_region s w tt e)

  count_same : (key : ℕ) → list_count s key ≡ list_count w key
  unfolding list_count set_count
  count_same key = rw (here tables_loaded tt key, here union_sizes tt (key - version_sets))

  pub lists-same : (key : ℕ) → lists_at s key ≡ lists_at w key
  unfolding lists_at
  lists-same key = rw (count_same key, from-same (list_at s) (list_at w) list_same (first_slot key) (list_count w key))

  literal-same : (i : ℕ) → literal_at s i ≡ literal_at w i
  unfolding literal_at
  literal-same i = rw (here literal_variables tt i, here literal_signs tt i)

  pub literals-same : (condition : ℕ) → literals_at s condition ≡ literals_at w condition
  unfolding literals_at
  literals-same condition =
      rw (
        here disjunction_starts tt (condition - 1),
        here disjunction_sizes tt (condition - 1),
        from-same (literal_at s) (literal_at w) literal-same (at disjunction_starts (condition - 1) w) (at disjunction_sizes (condition - 1) w - 1),
      )

-- a clause's words, by the clauses alone
module _ (s w : List ℕ) (e : area clauses_region s ≡ area clauses_region w) where
  pub clauses_same : at clause_count 0 s ≡ at clause_count 0 w
  clauses_same = at_same clause_count clauses_region s w tt e 0

  pub clause-same : (a : Area) → T (within a clauses_region) → (k : ℕ) → of_clause a s k ≡ of_clause a w k
  unfolding of_clause
  clause-same a t k = rw (clauses_same, at_same a clauses_region s w t e k)

-- the clauses and tables of w, with other settings
module _ (s w : List ℕ) (c : area clauses_region s ≡ area clauses_region w) (t : area tables_region s ≡ area tables_region w) where
  pub env-tuned : (f : ℕ → ℕ) (h : ℕ → Bool) (m : Bool) (r : ℕ) → (env_of s).activity ≡ f → (env_of s).hot ≡ h → (env_of s).standard ≡ m → (env_of s).rule ≡ r → env_of s ≡ (tuned (store_of w) f h m r).env
  env-tuned f h m r a b d g =
      λ i.
      record {
        size = clauses_same s w c i;
        parent = fun_ext (clause-same s w c clause_parents tt) i;
        requirement = fun_ext (clause-same s w c clause_requirements tt) i;
        condition = fun_ext (λ k. literals-same s w t (of_clause clause_conditions s k) ∙ ap (literals_at w) (clause-same s w c clause_conditions tt k)) i;
        clause_id = fun_ext (clause-same s w c clause_ids tt) i;
        lists = fun_ext (lists-same s w t) i;
        activity = a i;
        names = names;
        hot = b i;
        standard = d i;
        rule = g i;
      }

-- the clauses, tables and settings
module _ (s w : List ℕ) (e : area environment_region s ≡ area environment_region w) where
  setting : (a : Area) → T (within a environment_region) → (i : ℕ) → at a i s ≡ at a i w
  setting a t i = at_same a environment_region s w t e i

  pub env-same : env_of s ≡ env_of w
  env-same =
      env-tuned s w (area_same clauses_region environment_region s w tt e) (area_same tables_region environment_region s w tt e)
      (env_of w).activity (env_of w).hot (env_of w).standard (env_of w).rule
      (fun_ext (setting activities tt)) (fun_ext (λ n. ap (λ x. eqb x 1) (setting hot_names tt n))) (ap (λ x. eqb x 1) (setting mode tt 0)) refl

-- the assignment
pub assigned-same : (s w : List ℕ) → area map s ≡ area map w → assigned s ≡ assigned w
unfolding assigned at
assigned-same s w e = fun_ext (λ v. rw e)

-- the caches
abbrev pub caches_region : Area
caches_region = region cache_states cache_counts

pub cache-same : (s w : List ℕ) → area caches_region s ≡ area caches_region w → (key : ℕ) → cache_of s key ≡ cache_of w key
unfolding cache_of
cache-same s w e key =
    rw (
      at_same cache_states caches_region s w tt e key,
      at_same cache_candidates caches_region s w tt e key,
      at_same cache_names caches_region s w tt e key,
      at_same cache_counts caches_region s w tt e key,
    )

-- the queue
module _ (s w : List ℕ) (e : area queue_region s ≡ area queue_region w) where
  pub mark_same : at clause_count 0 s ≡ at clause_count 0 w → (k : ℕ) → mark_of s k ≡ mark_of w k
  unfolding mark_of of_clause
  mark_same n k = rw (n, at_same queued queue_region s w tt e k)

  pub queue-same : at clause_count 0 s ≡ at clause_count 0 w → queue_of s ≡ queue_of w
  queue-same n = λ i. record { mark = fun_ext (mark_same n) i; cache = fun_ext (cache-same s w (area_same caches_region queue_region s w tt e)) i }

-- the trail, by its length and its entries
pub entry_by : (s w : List ℕ) (k : ℕ) → at trail_variables k s ≡ at trail_variables k w → at trail_values k s ≡ at trail_values k w → entry_at s k ≡ entry_at w k
unfolding entry_at
entry_by s w k p q = rw (p, q)

pub trail_by : (s w : List ℕ) → at trail_length 0 s ≡ at trail_length 0 w → ((k : ℕ) → entry_at s k ≡ entry_at w k) → trail_of s ≡ trail_of w
unfolding trail_of
trail_by s w n h = rw (n, from-same (entry_at s) (entry_at w) h 0 (at trail_length 0 w))

pub trail-same : (s w : List ℕ) → area trail_region s ≡ area trail_region w → trail_of s ≡ trail_of w
trail-same s w e =
    trail_by s w (at_same trail_length trail_region s w tt e 0)
    (λ k. entry_by s w k (at_same trail_variables trail_region s w tt e k) (at_same trail_values trail_region s w tt e k))

-- the mirror
pub mirror-same : (s w : List ℕ) → area mirror_region s ≡ area mirror_region w → mirror_of s ≡ mirror_of w
unfolding mirror_of
mirror-same s w e = rw (at_same mirror_length mirror_region s w tt e 0, area_same mirror mirror_region s w tt e)
