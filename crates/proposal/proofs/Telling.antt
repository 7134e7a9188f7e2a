-- The walk's answer, told as document 01 gives it. Assumes nothing.
use mathlib.Core.Bool.{Bool, not}
use mathlib.Core.List.{List}
use mathlib.Core.Path.{◌≡◌, sym, subst, ap, ◌∙◌}
use Prim.Native.Nat.{ℕ, ◌≤◌, ◌<◌}
use native.Mathlib.Omega.{arith}
use lib.Dec.{T}
use lib.Ieee.{binary32, is_nan, of_bits}
use lib.Ieee.Bits.{nan_bits_is}
use Rattle.clauses.specs.Record.{clause_at}
use Rattle.clauses.specs.declared.Clause.{Clause}
use Rattle.examine.proofs.Stand.{Beside, at-beside, clause-beside}
use Rattle.meaning.proofs.Records.{clause-inside, clause-word}
use Rattle.meaning.specs.Standing.{of_clause}
use Rattle.proposal.proofs.Kept.{answer-beside}
use Rattle.proposal.specs.Propose.{answer, ended, proposal_answer, proposal_left, told}
use Rattle.proposal.specs.Turn.{Fine}
use Rattle.rules.proofs.FloatOrder.{no_nan_bits}
use Rattle.rules.specs.Activity.{last_activity}
use Rattle.rules.specs.Queue.{Answer}
use Rattle.store.specs.Layout.{clause_ids, clause_parents}
use Rattle.store.specs.Limits.{clauses}
use Rattle.store.specs.Shape.{Sound}
use Rattle.rules.specs.declared.Best.{Best}
use Rattle.rules.specs.declared.Out.{Out}
use Rattle.rules.specs.declared.Out.TheVariants.{Nothing, Choose}
use Rattle.rules.specs.declared.Out.TheVariants as out
use Rattle.proposal.specs.declared.Proposal.TheVariants.{Choose as Chosen, Nothing as NoneOpen}
use Rattle.proposal.specs.declared.Proposal.TheVariants as proposal
use Rattle.proposal.specs.declared.decide_queue.Walked.{Walked}

module _ (w s : List ℕ) (r : Walked) (ok : Sound w) (e : ended r s ≡ answer w) where
  left-told : s ≡ proposal_left w
  unfolding proposal_left
  left-told = ap (λ (x : Answer (List ℕ)). x.left) e

  told_is : (o : Out) → r.out ≡ o → told w o r.drops ≡ proposal_answer w
  unfolding proposal_answer
  told_is o h = sym (ap (λ (o : Out). told w o r.drops) h) ∙ ap (λ (x : Answer (List ℕ)). told w x.out x.drops) e

  walked-beside : Beside s w
  unfolding proposal_left
  walked-beside = rw left-told (answer-beside w ok)

  pub told-nothing : r.out ≡ Nothing → (NoneOpen r.drops ≡ proposal_answer w) × (s ≡ proposal_left w)
  told-nothing h = (told_is Nothing h, left-told)

  pub told-dead : (c : ℕ) → r.out ≡ out.Dead c → (proposal.Dead c r.drops ≡ proposal_answer w) × (s ≡ proposal_left w)
  told-dead c h = (told_is (out.Dead c) h, left-told)

  pub told_choose : (b : Best) (k : ℕ) (clause : Clause) → r.out ≡ Choose b → Fine w b → k ≡ b.clause → clause ≡ clause_at s k →
      (Chosen b.candidate clause.parent clause.id (of_bits binary32 b.activity) b.count r.drops ≡ proposal_answer w) × (s ≡ proposal_left w)
  unfolding clause_at
  told_choose b k clause h f i x =
      let parent : clause.parent ≡ of_clause clause_parents w b.clause = ap (λ (c : Clause). c.parent) x ∙ at-beside s w walked-beside clause_parents tt k ∙ rw (i, clause-word clause_parents w b.clause f.clause<) in
      let id : clause.id ≡ of_clause clause_ids w b.clause = ap (λ (c : Clause). c.id) x ∙ at-beside s w walked-beside clause_ids tt k ∙ rw (i, clause-word clause_ids w b.clause f.clause<) in
      (rw (parent, id) (told_is (Choose b) h), left-told)

  -- the record of the chosen clause can be read
  pub told_ready : (b : Best) (k : ℕ) → r.out ≡ Choose b → Fine w b → k ≡ b.clause → (Sound s) × (k < clauses)
  told_ready b k h f i = (walked-beside.sound, clause-inside s walked-beside.sound k (rw i (clause-beside s w walked-beside b.clause f.clause<)))

-- a good activity is a number
pub good-number : (a : ℕ) → a ≤ last_activity → T (not (is_nan (of_bits binary32 a)))
good-number a h = subst (λ (b : Bool). T (not b)) (nan_bits_is binary32 a) (no_nan_bits a (omega arith))
