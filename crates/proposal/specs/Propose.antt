-- The proposal at the words: the walk over the queued clauses, its answer as document 01 gives it, and the words that it leaves.
use Rattle.store.specs.declared.refusals.Refusal.{Refusal}
use Rattle.store.specs.declared.refusals.Refusal.TheVariants.{Unsynced, DeadClause}
use Rattle.store.specs.Refusals.{number}
use Rattle.std.specs.Prelude.{Result, Ok, Err, Bool, true, false, not, ◌||◌, ◌≡◌, ℕ, ◌-◌, T, ltb}
use mathlib.Core.List.{List, [], ◌∷◌, foldl}
use Rattle.std.specs.Float.{binary32}
use Rattle.std.specs.Float.Ieee.{is_nan, of_bits, to_bits}
use Rattle.meaning.specs.Standing.{env_of, of_clause}
use Rattle.examine.specs.Cache.{word_operations}
use Rattle.proposal.specs.Turn.{Fine}
use Rattle.rules.specs.Numbers.{from}
use Rattle.rules.specs.Queue.{Answer, queued_turn, queued_walk}
use Rattle.rules.specs.Walk.{Environment}
use Rattle.store.specs.Area.{at}
use Rattle.store.specs.Layout.{clause_count, clause_ids, clause_parents, mirror_length}
use Rattle.trail.specs.Assignment.{floor_of}
use Rattle.trail.specs.Entries.{entries}
use Rattle.store.specs.Row.{Row, ◌if◌}
use Rattle.rules.specs.declared.Best.{Best}
use Rattle.rules.specs.declared.Out.{Out}
use Rattle.rules.specs.declared.Out.TheVariants.{Nothing, Choose}
use Rattle.proposal.specs.declared.Proposal.{Proposal}
use Rattle.proposal.specs.declared.Proposal.TheVariants.{Choose as Chosen, Nothing as NoneOpen}
use Rattle.proposal.specs.declared.Proposal.TheVariants as proposal
use Rattle.proposal.specs.declared.decide_queue.Walked.{Walked}
use Rattle.rules.specs.declared.Out.TheVariants as out

-- the whole walk
unfoldable pub answer : List ℕ → Answer (List ℕ)
answer w = queued_walk word_operations (env_of w) w

-- an answer so far
abbrev pub so_far : Out → ℕ → Walked
so_far y d = record { out = y; drops = d }

-- it ends at its best
abbrev pub choosing : Best → ℕ → Walked
choosing b d = so_far (Choose b) d

-- at a dead clause of this id
abbrev pub dying : ℕ → ℕ → Walked
dying id d = so_far (out.Dead id) d

-- an end of the walk with the words that it leaves
abbrev pub ended : Walked → List ℕ → Answer (List ℕ)
ended r s = record { out = r.out; drops = r.drops; left = s }

-- the walk over clauses that are left
abbrev pub onward : Environment → Answer (List ℕ) → List ℕ → Answer (List ℕ)
onward e x ks = foldl (queued_turn word_operations e) x ks

-- from rank k on
abbrev pub from_rank : List ℕ → Walked → ℕ → List ℕ → Answer (List ℕ)
from_rank w r k s = onward (env_of w) (ended r s) (from (λ j. j) k (at clause_count 0 w - k))

-- what is chosen is a clause of the store with a good activity
pub record Sane (w : List ℕ) (o : Out) : Type 0 where
  pub chosen : (b : Best) → o ≡ Choose b → Fine w b

-- "The answer carries candidate, parent, clause id, activity as f32, count, and the number of clauses dropped from the queue by this call;
-- "nothing" and refusal 8 carry that number too"
abbrev pub told : List ℕ → Out → ℕ → Proposal
told w Nothing d = NoneOpen d
told w (out.Dead c) d = proposal.Dead c d
told w (Choose b) d = Chosen b.candidate (of_clause clause_parents w b.clause) (of_clause clause_ids w b.clause) (of_bits binary32 b.activity) b.count d

-- the activity that is told is a number, so that its bits can be handed out
abbrev pub Numbered : Proposal → Type 0
Numbered (Chosen candidate parent clause activity count dropped) = T (not (is_nan activity))
Numbered (NoneOpen dropped) = Unit {0}
Numbered (proposal.Dead clause dropped) = Unit {0}

-- on a store of sound shape
unfoldable pub proposal_answer : List ℕ → Proposal
proposal_answer w = told w (answer w).out (answer w).drops

-- and the words that it leaves
unfoldable pub proposal_left : List ℕ → List ℕ
proposal_left w = (answer w).left

-- "Unsynced means: the floor is below the mirror's length, or the trail is longer than the mirror"
unfoldable pub unsynced : List ℕ → Bool
unsynced w = ltb (floor_of w) (at mirror_length 0 w) || ltb (at mirror_length 0 w) (entries w)

-- the call; 7: "a proposal is asked of an unsynced store"
abbrev pub proposal_row : List ℕ → Row Proposal
proposal_row w = record { tests = Unsynced if unsynced w ∷ []; answer = proposal_answer w; left = proposal_left w }

-- whether the walk ended at a dead clause
abbrev pub is_dead : Proposal → Bool
is_dead (proposal.Dead clause dropped) = true
is_dead (Chosen candidate parent clause activity count dropped) = false
is_dead (NoneOpen dropped) = false

-- the answer's number in document 01; a dead clause is 8
abbrev pub proposal_number : Result Proposal Refusal → ℕ
proposal_number (Ok (Chosen candidate parent clause activity count dropped)) = 0
proposal_number (Ok (NoneOpen dropped)) = 0
proposal_number (Ok (proposal.Dead clause dropped)) = number DeadClause
proposal_number (Err e) = number e

-- its values. Chosen: 1, the candidate, its parent and clause id, the activity's bits, the count, the drops; nothing: 0, the drops; dead: its
-- clause id, the drops
abbrev pub proposal_values : Proposal → List ℕ
proposal_values (Chosen candidate parent clause activity count dropped) = 1 ∷ candidate ∷ parent ∷ clause ∷ to_bits binary32 activity ∷ count ∷ dropped ∷ []
proposal_values (NoneOpen dropped) = 0 ∷ dropped ∷ []
proposal_values (proposal.Dead clause dropped) = clause ∷ dropped ∷ []
