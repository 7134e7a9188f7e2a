-- THE PROPOSAL OF A SYNCED STORE IS THE WALK OF DOCUMENT 01. Assumes nothing.
use mathlib.Core.Bool.{false}
use mathlib.Core.List.{List, []}
use mathlib.Core.Path.{◌≡◌, ap, ◌∙◌}
use Prim.Native.Nat.{ℕ}
use borrow.Author.Tests.{ltb-false}
use lib.Dec.{ltb}
use Rattle.meaning.specs.Standing.{env_of, queue_of, store_of}
use Rattle.proposal.proofs.Kept.{answer_along}
use Rattle.proposal.specs.Propose.{answer, proposal_answer, told, unsynced}
use Rattle.rules.proofs.Same.{same-walk}
use Rattle.rules.specs.Invariant.{Holds}
use Rattle.rules.specs.Store.{Synced}
use Rattle.rules.specs.Walk.{walk}
use Rattle.rules.proofs.Choice.{neither}
use Rattle.store.specs.Area.{at}
use Rattle.store.specs.Layout.{mirror_length, sync_floor, trail_length}
use Rattle.store.specs.Shape.{Sound}
use Rattle.rules.specs.declared.Out.{Out}
use Rattle.trail.specs.Assignment.{assigned}
use Rattle.meaning.proofs.Lists.{length_mirror, length_trail}

module _ (w : List ℕ) (h : Sound w) (q : Holds (env_of w) (assigned w) [] (queue_of w)) where
  -- where the queue is right for the assignment, the answer is the walk over every clause: the words answer as the queue, the queue as the walk
  pub proposal_is : proposal_answer w ≡ told w (walk (env_of w) (assigned w)) (answer w).drops
  unfolding proposal_answer
  proposal_is = ap (λ (o : Out). told w o (answer w).drops) ((answer_along w h).0 ∙ (same-walk (env_of w) (assigned w) (queue_of w) q).0)

-- what is not refused by number 7 is synced, in the words' store too
module _ (w : List ℕ) (h : Sound w) where
  pub synced_store : unsynced w ≡ false → Synced (store_of w)
  unfolding unsynced
  synced_store e =
      let p = neither (ltb (at sync_floor 0 w) (at mirror_length 0 w)) (ltb (at mirror_length 0 w) (at trail_length 0 w)) e in
      record {
        none_popped = rw (length_mirror w h) (ltb-false (at sync_floor 0 w) (at mirror_length 0 w) p.0);
        none_pushed = rw (length_mirror w h, length_trail w) (ltb-false (at mirror_length 0 w) (at trail_length 0 w) p.1);
      }
