-- One clause of the walk at the words: the walk's tests and bests of the environment that the words hold, and what a clause does to the best.
use Rattle.std.specs.Prelude.{Bool, true, false, cond, not, ◌&&◌, List, ℕ, ◌≤◌, ◌<◌}
use Rattle.examine.specs.Cache.{examined, finding_at}
use Rattle.meaning.specs.Standing.{env_of, mark_of}
use Rattle.rules.specs.Activity.{last_activity}
use Rattle.rules.specs.Numbers.{first_from}
use Rattle.rules.specs.Walk.{best, better, is_hot, largest, narrow, passed_over, shielded, stops}
use Rattle.store.specs.Area.{at}
use Rattle.store.specs.Layout.{clause_count}
use Rattle.store.specs.Limits.{names}
use Rattle.rules.specs.declared.Best.{Best}
use Rattle.rules.specs.declared.Finding.{Finding}
use Rattle.rules.specs.declared.Finding.TheVariants.{Shut, Open}
use Rattle.rules.specs.declared.Finding.TheVariants as finding
use Rattle.proposal.specs.declared.decide_queue.Weighed.{Weighed}
use Rattle.proposal.specs.declared.decide_queue.Weighed.TheVariants.{On, Enough}
use Rattle.proposal.specs.declared.decide_queue.Weighed.TheVariants as weighing

-- "It is hot if a name of its version sets is hot"
unfoldable pub hot_at : List ℕ → ℕ → Bool
hot_at w k = is_hot (env_of w) k

-- "in standard mode only hot ones"
unfoldable pub cold_at : List ℕ → ℕ → Bool
cold_at w k = narrow (env_of w) && not (is_hot (env_of w) k)

-- "If the best's parent is the root, clauses of other parents are passed over unexamined"
unfoldable pub shielded_at : List ℕ → Best → ℕ → Bool
shielded_at w b k = shielded (env_of w) b k

-- whether a clause is passed over
unfoldable pub passed_at : List ℕ → Best → ℕ → Bool
passed_at w b k = passed_over (env_of w) b k

-- "the largest stored" of the first n activities
unfoldable pub largest_at : List ℕ → ℕ → ℕ
largest_at w n = largest (env_of w).activity n

-- of all, which only a narrow walk asks for
unfoldable pub top_at : List ℕ → ℕ
top_at w = cond (narrow (env_of w)) (largest_at w names) 0

-- "Stop as soon as the best's count is 1, or in standard mode when its activity is the largest stored"
unfoldable pub stops_at : List ℕ → Best → Bool
stops_at w b = stops (env_of w) b

-- a clause as the best
unfoldable pub best_at : List ℕ → ℕ → ℕ → ℕ → ℕ → Best
best_at w k candidate name count = best (env_of w) k candidate name count

-- a best is one of the store's clauses, and its activity's bits are those of a finite number
pub record Fine (w : List ℕ) (b : Best) : Type 0 where
  pub clause< : b.clause < at clause_count 0 w
  pub activity≤ : b.activity ≤ last_activity

-- what a queued clause does to the best so far, by whether the walk stops, whether the clause is passed over, and what an examination finds
abbrev pub weigh_by : Bool → Bool → Finding → Best → (ℕ → ℕ → ℕ → Best) → Weighed
weigh_by true passed v b f = Enough
weigh_by false true v b f = On b 0
weigh_by false false Shut b f = On b 1
weigh_by false false (Open x n m) b f = On (f x n m) 0
weigh_by false false finding.Dead b f = weighing.Dead

-- of clause k on the words
unfoldable pub weigh_of : List ℕ → Best → ℕ → Weighed
weigh_of w b k = weigh_by (stops_at w b) (passed_at w b k) (finding_at w k) b (λ x n m. better (env_of w).rule b (best_at w k x n m))

-- and the words left
unfoldable pub weighed : List ℕ → Best → ℕ → List ℕ
weighed w b k = cond (stops_at w b) w (cond (passed_at w b k) w (examined w k))

-- the first of the n clauses from rank k on that is queued, or the rank behind them
abbrev pub next_queued : List ℕ → ℕ → ℕ → ℕ
next_queued w k n = first_from (mark_of w) k n
