-- WHICH CLAUSES A PROPOSAL DROPS FROM THE QUEUE: those that the walk examines and finds not open; and how many.
use Rattle.std.specs.Prelude.{Bool, List, ℕ, Result, Ok, Err}
use Rattle.meaning.specs.Standing.{env_of, mark_of}
use Rattle.rules.specs.Leaving.{Dies as DiesAt, examined as examined_by}
use Rattle.rules.specs.Queue.{tally}
use Rattle.proposal.specs.declared.Proposal.{Proposal}
use Rattle.proposal.specs.declared.Proposal.TheVariants.{Choose as Chosen, Nothing as NoneOpen, Dead as DeadAt}
use Rattle.store.specs.declared.refusals.Refusal.{Refusal}
use Rattle.store.specs.Area.{at}
use Rattle.store.specs.Layout.{clause_count}
use Rattle.trail.specs.Assignment.{assigned}

-- a clause that is examined where it is queued
abbrev pub examined : List ℕ → ℕ → Bool
examined w k = examined_by (env_of w) (assigned w) k

-- the walk examines a dead clause of this id
abbrev pub Dies : List ℕ → ℕ → Type 0
Dies w clause = DiesAt (env_of w) (assigned w) clause

-- "the queue's size": how many of the store's clauses are queued
abbrev pub queue_size : List ℕ → ℕ
queue_size w = tally (mark_of w) (at clause_count 0 w)

-- "the number of clauses dropped from the queue by this call"
abbrev pub drops_of : Result Proposal Refusal → ℕ
drops_of (Ok (Chosen candidate parent clause activity count dropped)) = dropped
drops_of (Ok (NoneOpen dropped)) = dropped
drops_of (Ok (DeadAt clause dropped)) = dropped
drops_of (Err e) = 0
