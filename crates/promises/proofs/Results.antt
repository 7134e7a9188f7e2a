-- WHAT DOCUMENT 01 SAYS OF THE ANSWERS, FOR THE WORDS THAT THE CALLS READ AND WRITE; of refusals see `Refusals`, of position order
-- `Positions`. Assumes nothing.
use mathlib.Core.Bool.{Bool, true, false, cond, not, ◌&&◌}
use mathlib.Core.List.{List}
use mathlib.Core.Logic.{⊎_elim, ◌↔◌, ◌≢◌}
use mathlib.Core.Path.{◌≡◌, refl, ap, sym, ◌∙◌}
use Prim.Native.Nat.{ℕ, zero, suc, ◌+◌, ◌-◌, ◌*◌, ◌≤◌, ◌<◌}
use native.Mathlib.Omega.{arith}
use borrow.Author.Tests.{eqb-false}
use lib.Dec.{T, eqb, eqb→eq}
use Rattle.meaning.specs.Standing.{env_of, mark_of, queue_of}
use Rattle.meaning.specs.View.{list_at, lists_at}
use Rattle.examine.proofs.Stand.{at-beside}
use Rattle.promises.proofs.Calling.{reached_genuine, reached-sound}
use Rattle.promises.proofs.Demands.{demand2, one_proposal, reached-holds}
use Rattle.imbolaverk.proofs.Links.{propose-told}
use Rattle.imbolaverk.specs.Calls.{ReachedWords, number_of, propose}
use Rattle.promises.specs.Leaving.{Dies, drops_of, examined, queue_size}
use Rattle.promises.specs.Six.{SameButMode, undropped}
use Rattle.proposal.proofs.Kept.{answer_along}
use Rattle.proposal.proofs.Steps.{name_below}
use Rattle.proposal.specs.Propose.{answer, proposal_answer, proposal_left, proposal_number, told, unsynced, proposal_row}
use Rattle.rules.proofs.Drops.{drops-of}
use Rattle.rules.proofs.Leaving.{walk_dies, walk_leaves}
use Rattle.rules.proofs.Modes.{modes}
use Rattle.rules.proofs.Nothing.{nothing_iff}
use Rattle.rules.proofs.Sweeps.{routes-same}
use Rattle.rules.specs.Leaving.{not_open}
use Rattle.rules.specs.Queue.{Queue, tally}
use Rattle.rules.specs.Sync.{routes}
use Rattle.rules.specs.Walk.{any_hot, look, member, in_mode, named, walk}
use Rattle.store.proofs.AreaLaws.{at-past}
use Rattle.rules.proofs.Choice.{lt_or, true_false, or_cases}
use Rattle.store.proofs.Soundness.{sound_facts}
use Rattle.store.specs.Area.{at}
use Rattle.store.specs.Layout.{activities, clause_count, hot_names, mirror_length, sync_floor, trail_length}
use Rattle.store.specs.Limits.{names}
use Rattle.store.specs.Shape.{Sound, sound_shape}
use Rattle.sync.proofs.Mirrored.{touches_are}
use Rattle.sync.proofs.Standing.{sync-is}
use Rattle.sync.specs.Sync.{touched_in, sync_row}
use Rattle.proposal.specs.declared.Proposal.TheVariants.{Nothing as NoneOpen, Dead as DeadAt}
use Rattle.rules.specs.declared.Out.{Out}
use Rattle.rules.specs.declared.Out.TheVariants.{Nothing, Choose}
use Rattle.trail.specs.Assignment.{assigned}
use Rattle.rules.specs.Numbers.{from}
use Rattle.rules.specs.declared.Finding.TheVariants.{Shut}
use Rattle.rules.specs.declared.Out.TheVariants as out
use Rattle.rules.specs.declared.Finding.TheVariants as finding
use Rattle.meaning.proofs.Lists.{length_mirror, length_trail}
use Rattle.store.specs.Row.{answer_any, left_any}
use Rattle.store.specs.declared.refusals.Refusal.TheVariants.{BadStore, Unsynced}
use Rattle.std.specs.Prelude.{Ok, Err}

-- 7: "a proposal is asked of an unsynced store", exactly
pub unsynced_exactly : (w : List ℕ) → sound_shape w ≡ true → (number_of w propose ≡ 7) ↔ (unsynced w ≡ true)
unfolding proposal_answer
unsynced_exactly w h = rw (← propose-told w, h) (go (unsynced w))
  where
    other : (o : Out) (d : ℕ) → proposal_number (Ok (told w o d)) ≢ 7
    other Nothing d e = omega (arith, e)
    other (out.Dead c) d e = omega (arith, e)
    other (Choose b) d e = omega (arith, e)

    go : (b : Bool) → (proposal_number (cond b (Err Unsynced) (Ok (told w (answer w).out (answer w).drops))) ≡ 7) ↔ (b ≡ true)
    go true = (λ e. refl, λ e. refl)
    go false = (λ e. absurd (other (answer w).out (answer w).drops e), λ e. absurd (true_false (sym e)))

module _ (w : List ℕ) (r : ReachedWords w) where
  module _ (u : unsynced w ≡ false) where
    -- the proposal, drop count aside, is what the walk's answer tells
    as-walked : (o : Out) → walk (env_of w) (assigned w) ≡ o → undropped (answer_any w (proposal_row w)) ≡ undropped (Ok (told w o 0))
    as-walked o e = rw (demand2 w r u, e) (aside o (answer w).drops)
      where
        aside : (p : Out) (d : ℕ) → undropped (Ok (told w p d)) ≡ undropped (Ok (told w p 0))
        aside Nothing d = refl
        aside (out.Dead c) d = refl
        aside (Choose b) d = refl

    -- "nothing is answered exactly when no clause is open"
    pub nothing_exactly : (undropped (answer_any w (proposal_row w)) ≡ Ok (NoneOpen 0)) ↔ ((k : ℕ) → k < at clause_count 0 w → look (env_of w) (assigned w) k ≡ Shut)
    nothing_exactly =
        (λ e. (nothing_iff (env_of w) (assigned w)).0 (back (walk (env_of w) (assigned w)) (sym (as-walked _ refl) ∙ e)), λ h. as-walked Nothing ((nothing_iff (env_of w) (assigned w)).1 h))
      where
        back : (o : Out) → undropped (Ok (told w o 0)) ≡ Ok (NoneOpen 0) → o ≡ Nothing
        back Nothing e = refl
        back (out.Dead c) e = cc
        back (Choose b) e = cc

    dies : (clause : ℕ) → (walk (env_of w) (assigned w) ≡ out.Dead clause) ↔ Dies w clause
    dies clause = walk_dies (env_of w) (assigned w) clause

    -- "A dead clause examined is refusal 8", "its clause id comes too"
    pub dead_exactly : (clause : ℕ) → (undropped (answer_any w (proposal_row w)) ≡ Ok (DeadAt clause 0)) ↔ Dies w clause
    dead_exactly clause =
        (λ e. (dies clause).0 (back (walk (env_of w) (assigned w)) (sym (as-walked _ refl) ∙ e)), λ d. as-walked (out.Dead clause) ((dies clause).1 d))
      where
        back : (o : Out) → undropped (Ok (told w o 0)) ≡ Ok (DeadAt clause 0) → o ≡ out.Dead clause
        back Nothing e = cc
        back (out.Dead c) e = cc
        back (Choose b) e = cc

    -- and the number is 8 then alone
    pub eight_exactly : (number_of w propose ≡ 8) ↔ ((clause : ℕ) × Dies w clause)
    eight_exactly = rw (← propose-told w) (λ e. back (walk (env_of w) (assigned w)) refl (sym (ap proposal_number (demand2 w r u)) ∙ e), λ d. rw (demand2 w r u, (dies d.0).1 d.1))
      where
        back : (o : Out) → walk (env_of w) (assigned w) ≡ o → proposal_number (Ok (told w o (answer w).drops)) ≡ 8 → (clause : ℕ) × Dies w clause
        back Nothing q e = absurd (omega (arith, e))
        back (out.Dead c) q e = (c, (dies c).0 q)
        back (Choose b) q e = absurd (omega (arith, e))

    -- "A clause leaves the queue exactly when the walk examines it queued and finds it not open"; and none enters
    pub leaves_exactly : (k : ℕ) → mark_of (left_any w (proposal_row w)) k ≡ mark_of w k && not (examined w k && not_open (look (env_of w) (assigned w) k))
    unfolding proposal_left
    leaves_exactly k =
        rw (reached-sound w r, u)
        (ap (λ (q : Queue). q.mark k) (answer_along w (reached_genuine w r).sound).2.0 ∙ walk_leaves (env_of w) (assigned w) (queue_of w) (reached-holds w r u) k)

  -- "touches are the mirror's length plus the trail's, less twice the floor"
  pub touches_are_counted : answer_any w (sync_row w) ≡ Ok (at mirror_length 0 w + at trail_length 0 w - 2 * at sync_floor 0 w)
  touches_are_counted =
      let h = (reached_genuine w r).sound in
      rw (reached-sound w r, touches_are w h, length_mirror w h, length_trail w)

  -- the touched variables, routed one after the other in any order and with any repeats, give the queue that sync leaves
  pub sync_any_order : (touched : List ℕ) → ((v : ℕ) → member v touched ≡ member v (touched_in w)) → queue_of (left_any w (sync_row w)) ≡ routes (env_of w) (assigned w) touched (queue_of w)
  sync_any_order touched same =
      rw (reached-sound w r) (sync-is w (reached_genuine w r).sound ∙ sym (routes-same touched (touched_in w) same (env_of w) (assigned w) (queue_of w)))

-- "drops are the queue's size before less after", on any words
pub drops_are_counted : (w : List ℕ) → queue_size w ≡ queue_size (left_any w (proposal_row w)) + drops_of (answer_any w (proposal_row w))
unfolding proposal_answer proposal_left
drops_are_counted w = go (sound_shape w) (unsynced w) refl
  where
    dropped : (o : Out) (d : ℕ) → drops_of (Ok (told w o d)) ≡ d
    dropped Nothing d = refl
    dropped (out.Dead c) d = refl
    dropped (Choose b) d = refl

    walked : Sound w → queue_size w ≡ queue_size (answer w).left + drops_of (Ok (told w (answer w).out (answer w).drops))
    walked h =
        let along = answer_along w h in
        let left = ap (λ (q : Queue). tally q.mark (at clause_count 0 w)) along.2.0 in
        let same = ap (tally (mark_of (answer w).left)) (at-beside (answer w).left w along.2.1 clause_count tt 0) in
        omega (arith, left, same, along.1, dropped (answer w).out (answer w).drops, drops-of (env_of w) (assigned w) (queue_of w))

    go : (b c : Bool) → sound_shape w ≡ b →
        queue_size w ≡ queue_size (cond (not b) w (cond c w (answer w).left)) + drops_of (cond (not b) (Err BadStore) (cond c (Err Unsynced) (Ok (told w (answer w).out (answer w).drops))))
    go true true e = omega arith
    go true false e = walked (sound_facts w e)
    go false c e = omega arith

-- "Where no open clause is dead and every cold name's activity is zero, both modes give the same proposal, drop count aside"
module _ (w u : List ℕ) (r : ReachedWords w) (q : ReachedWords u) (same : SameButMode w u)
    (alive : (k : ℕ) → k < at clause_count 0 u → look (env_of u) (assigned u) k ≢ finding.Dead)
    (cold : (name : ℕ) → name < names → at hot_names name u ≢ 1 → at activities name u ≡ 0) where
  cold-zero : (name : ℕ) → eqb (at hot_names name u) 1 ≡ false → at activities name u ≡ 0
  cold-zero name e =
      ⊎_elim (λ (l : name < names). cold name l (eqb-false (at hot_names name u) 1 e)) (λ (l : names ≤ name). at-past activities name u l) (lt_or name names)

  -- a name of a candidate list is in range
  in-range : (n slot count : ℕ) → T (named n (from (list_at u) slot count)) → n < names
  unfolding from any_hot list_at
  in-range n slot zero t = absurd t
  in-range n slot (suc count) t =
      ⊎_elim (λ (l : T (eqb n (list_at u slot).name)). name_below u slot n (reached_genuine u q).sound (eqb→eq n (list_at u slot).name l))
      (in-range n (slot + 1) count) (or_cases (eqb n (list_at u slot).name) (named n (from (list_at u) (slot + 1) count)) t)

  any-mode : (b c : Bool) → walk (in_mode (env_of u) b) (assigned u) ≡ walk (in_mode (env_of u) c) (assigned u)
  unfolding lists_at
  any-mode b c = go b c (modes (env_of u) (assigned u) alive cold-zero (λ k n l t. in-range n _ _ t))
    where
      go : (b c : Bool) → walk (in_mode (env_of u) true) (assigned u) ≡ walk (in_mode (env_of u) false) (assigned u) → walk (in_mode (env_of u) b) (assigned u) ≡ walk (in_mode (env_of u) c) (assigned u)
      go true true e = refl
      go true false e = e
      go false true e = sym e
      go false false e = refl

  pub modes_agree : unsynced w ≡ false → unsynced u ≡ false → undropped (answer_any w (proposal_row w)) ≡ undropped (answer_any u (proposal_row u))
  modes_agree x y = one_proposal w u r q x y same (any-mode (env_of w).standard (env_of u).standard)
