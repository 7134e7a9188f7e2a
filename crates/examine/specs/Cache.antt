-- The caches in the words: what an examination of a clause finds by them, and the words that it leaves.
use Rattle.std.specs.Prelude.{Option, Some, None, cond, List, [], ◌∷◌, ℕ}
use Rattle.meaning.specs.Standing.{env_of, cache_of, mark_of, queue_of, of_clause}
use Rattle.meaning.specs.View.{lists_at}
use Rattle.rules.specs.Queue.{Operations, examine}
use Rattle.rules.specs.Walk.{active, evaluate}
use Rattle.store.specs.Area.{Write, put, puts, write}
use Rattle.store.specs.Codes.{satisfied, frontier}
use Rattle.store.specs.Layout.{queued, cache_states, cache_candidates, cache_names, cache_counts, clause_requirements}
use Rattle.rules.specs.declared.State.{State}
use Rattle.rules.specs.declared.State.TheVariants.{Satisfied, Frontier}
use Rattle.trail.specs.Assignment.{assigned}
use Rattle.rules.specs.declared.Finding.{Finding}
use Rattle.rules.specs.declared.Finding.TheVariants.{Shut, Open}
use Rattle.rules.specs.declared.State.TheVariants as state
use Rattle.rules.specs.declared.Finding.TheVariants as finding

-- the four words of a cache
abbrev pub cache_writes : ℕ → ℕ → ℕ → ℕ → ℕ → List Write
cache_writes key state candidate name count = write cache_states key state ∷ write cache_candidates key candidate ∷ write cache_names key name ∷ write cache_counts key count ∷ []

-- the words once a cache is written
unfoldable pub cached : List ℕ → ℕ → ℕ → ℕ → ℕ → ℕ → List ℕ
cached w key state candidate name count = puts (cache_writes key state candidate name count) w

-- "caches filled; the dead requirement's cache stays dirty"
unfoldable pub saved : List ℕ → ℕ → State → List ℕ
saved w key (Satisfied x) = cached w key satisfied x 0 0
saved w key (Frontier x n m) = cached w key frontier x n m
saved w key state.Dead = w

-- a cache that is not dirty is believed and left; a dirty one gets what its requirement is
abbrev pub refreshed : List ℕ → ℕ → Option State → State → List ℕ
refreshed w key None t = saved w key t
refreshed w key (Some u) t = w

-- the key of a clause's requirement
abbrev pub clause_key : List ℕ → ℕ → ℕ
clause_key w k = of_clause clause_requirements w k

-- what an examination of clause k finds: only an active clause's cache is asked
unfoldable pub finding_at : List ℕ → ℕ → Finding
finding_at w k = examine (env_of w) (assigned w) (queue_of w) k

-- "caches filled": the words after the examination of clause k
unfoldable pub filled : List ℕ → ℕ → List ℕ
filled w k =
    cond (active (env_of w) (assigned w) k)
    (refreshed w (clause_key w k) (cache_of w (clause_key w k)) (evaluate (assigned w) (lists_at w (clause_key w k))))
    w

-- a clause leaves the queue
abbrev pub dropped : List ℕ → ℕ → List ℕ
dropped w k = put queued k 0 w

-- the words as a state of the walk
abbrev pub word_operations : Operations (List ℕ)
word_operations = record { mark = mark_of; examine = finding_at; fill = filled; drop = dropped }

-- the words that the examination of a queued clause leaves: "A clause leaves the queue exactly when the walk examines it queued and finds it
-- not open"
abbrev pub left_by : Finding → List ℕ → List ℕ → List ℕ
left_by Shut filled dropped = dropped
left_by (Open x n m) filled dropped = filled
left_by finding.Dead filled dropped = filled

-- of clause k
unfoldable pub examined : List ℕ → ℕ → List ℕ
examined w k = left_by (finding_at w k) (filled w k) (dropped (filled w k) k)
