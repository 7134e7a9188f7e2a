-- The store of document 01 that the words stand for: its clauses, tables and settings, its queue, its trail, mirror and floor.
use Rattle.std.specs.Prelude.{Option, Some, None, Bool, cond, List, ℕ, ltb, eqb, take}
use Rattle.meaning.specs.View.{lists_at, literals_at}
use Rattle.rules.specs.Queue.{Queue}
use Rattle.rules.specs.Store.{Store}
use Rattle.rules.specs.Sync.{Entry}
use Rattle.rules.specs.Walk.{Environment}
use Rattle.rules.specs.declared.State.{State}
use Rattle.rules.specs.declared.State.TheVariants.{Satisfied, Frontier}
use Rattle.store.specs.declared.area.Area.{Area}
use Rattle.store.specs.Area.{area, at}
use Rattle.store.specs.Codes.{dirty, satisfied, standard_mode}
use Rattle.store.specs.Layout.{queued, cache_states, cache_candidates, cache_names, cache_counts, mirror, mirror_length, sync_floor, trail_length, trail_variables, trail_values, mode, activities, hot_names, clause_count, clause_parents, clause_requirements, clause_conditions, clause_ids}
use Rattle.store.specs.Limits.{names}
use Rattle.rules.specs.Numbers.{from}

-- word k of an area that has a word for each clause: 0 where there are not so many clauses
unfoldable pub of_clause : Area → List ℕ → ℕ → ℕ
of_clause a w k = cond (ltb k (at clause_count 0 w)) (at a k w) 0

-- the clauses by rank, the lists of requirements, activities, hot names and the mode
abbrev pub env_of : List ℕ → Environment
env_of w =
    record {
      size = at clause_count 0 w;
      parent = of_clause clause_parents w;
      requirement = of_clause clause_requirements w;
      condition = λ k. literals_at w (of_clause clause_conditions w k);
      clause_id = of_clause clause_ids w;
      lists = lists_at w;
      activity = λ n. at activities n w;
      names = names;
      hot = λ n. eqb (at hot_names n w) 1;
      standard = eqb (at mode 0 w) standard_mode;
      rule = 1;
    }

-- a cache's four words: dirty; satisfied by a candidate; or a frontier's first candidate, name and count
unfoldable pub cache_by : ℕ → ℕ → ℕ → ℕ → Option State
cache_by state candidate name count = cond (eqb state dirty) None (cond (eqb state satisfied) (Some (Satisfied candidate)) (Some (Frontier candidate name count)))

-- the cache of a requirement
unfoldable pub cache_of : List ℕ → ℕ → Option State
cache_of w key = cache_by (at cache_states key w) (at cache_candidates key w) (at cache_names key w) (at cache_counts key w)

-- "a queued mark per clause"
unfoldable pub mark_of : List ℕ → ℕ → Bool
mark_of w k = eqb (of_clause queued w k) 1

-- the queue that the words stand for: marks and caches
abbrev pub queue_of : List ℕ → Queue
queue_of w = record { mark = mark_of w; cache = cache_of w }

-- entry k of the trail
unfoldable pub entry_at : List ℕ → ℕ → Entry
entry_at w k = record { variable = at trail_variables k w; positive = eqb (at trail_values k w) 1 }

-- the trail: its entries, first to last
unfoldable pub trail_of : List ℕ → List Entry
trail_of w = from (entry_at w) 0 (at trail_length 0 w)

-- the mirror's entries
unfoldable pub mirror_of : List ℕ → List ℕ
mirror_of w = take (at mirror_length 0 w) (area mirror w)

-- THE STORE OF DOCUMENT 01 that the words stand for
abbrev pub store_of : List ℕ → Store
store_of w = record { env = env_of w; trail = trail_of w; mirror = mirror_of w; floor = at sync_floor 0 w; queue = queue_of w }
