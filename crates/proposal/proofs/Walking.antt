-- WHERE THE WALK STANDS: what is left of it, from here, is the whole answer. One turn of it, by what the clause is found to be; the way to the next
-- queued clause; and its ends. Assumes nothing.
use mathlib.Core.Bool.{true, false}
use mathlib.Core.List.{List, [], ◌∷◌}
use mathlib.Core.Path.{◌≡◌, refl, sym, ap, ◌∙◌}
use Prim.Native.Nat.{ℕ, suc, ◌+◌, ◌-◌, ◌≤◌, ◌<◌}
use native.Mathlib.Numerals.{add-one}
use native.Mathlib.Omega.{arith}
use Rattle.examine.proofs.Stand.{Beside, at-beside, beside-examined, beside_self, clause-beside, env-beside}
use Rattle.examine.specs.Cache.{dropped, examined, filled, finding_at, left_by, word_operations}
use Rattle.meaning.proofs.Records.{clause-word}
use Rattle.meaning.specs.Standing.{env_of, mark_of, of_clause}
use Rattle.proposal.proofs.Steps.{activity-most}
use Rattle.proposal.specs.Propose.{Sane, answer, dying, ended, from_rank, onward, so_far}
use Rattle.proposal.specs.Turn.{Fine, best_at, next_queued}
use Rattle.rules.proofs.Cases.{better_either, onward-is}
use Rattle.rules.proofs.Choice.{and_none, true_false}
use Rattle.rules.proofs.Froms.{upto_done, upto_next}
use Rattle.rules.proofs.Loops.{first_along, first-least, first_passes}
use Rattle.rules.specs.Activity.{last_activity}
use Rattle.rules.specs.Numbers.{from}
use Rattle.rules.specs.Queue.{Answer, after_examining, queued_turn}
use Rattle.rules.specs.Walk.{Environment, after_finding, best, best_of, examines, up_to}
use Rattle.store.specs.Area.{at}
use Rattle.store.specs.Layout.{activities, clause_count, clause_ids}
use Rattle.store.specs.Limits.{clauses}
use Rattle.store.specs.Shape.{Sound}
use Rattle.rules.specs.declared.Best.{Best}
use Rattle.rules.specs.declared.Out.{Out}
use Rattle.rules.specs.declared.Out.TheVariants.{Nothing, Choose}
use Rattle.rules.specs.declared.Out.TheVariants as out
use Rattle.rules.specs.declared.Finding.{Finding}
use Rattle.rules.specs.declared.Finding.TheVariants.{Shut, Open}
use Rattle.rules.specs.declared.Finding.TheVariants as finding
use Rattle.proposal.specs.declared.decide_queue.Walked.{Walked}

-- what a walk has chosen is a clause of the store with a good activity
pub sane_choose : (w : List ℕ) (b : Best) → Fine w b → Sane w (Choose b)
sane_choose w b h = record { chosen = λ c e. let p : b ≡ c = cc in rw p at h }

pub sane-dead : (w : List ℕ) (x : ℕ) → Sane w (out.Dead x)
sane-dead w x = record { chosen = λ c e. absurd (true_false (cc)) }

pub sane-nothing : (w : List ℕ) → Sane w Nothing
sane-nothing w = record { chosen = λ c e. absurd (true_false (cc)) }

pub best-good : (w : List ℕ) (b : Best) (k x n m : ℕ) → Sound w → b ≡ best_at w k x n m → b.activity ≤ last_activity
unfolding best_at
best-good w b k x n m h e = activity-most w h n b.activity (ap (λ (y : Best). y.activity) e)

best_fine : (w : List ℕ) (k x n m : ℕ) → Sound w → k < at clause_count 0 w → Fine w (best (env_of w) k x n m)
best_fine w k x n m h l = record { clause< = l; activity≤ = activity-most w h n (at activities n w) refl }

-- a best, and what a walk has chosen, in a store beside
pub fine_beside : (s w : List ℕ) (b : Best) → Beside s w → Fine w b → Fine s b
fine_beside s w b g f = record { clause< = clause-beside s w g b.clause f.clause<; activity≤ = f.activity≤ }

pub sane-beside : (u w : List ℕ) (o : Out) → Beside u w → Sane u o → Sane w o
sane-beside u w o g h =
    record {
      chosen =
          λ c e.
          let f = h.chosen c e in
          let count = at-beside u w g clause_count tt 0 in
          record { clause< = omega (arith, f.clause<, count); activity≤ = f.activity≤ };
    }

-- the answer so far with the better of the best and an open clause
sane-best : (w : List ℕ) (y : Out) (d : Best) → Sane w y → Fine w d → Fine w (best_of (env_of w) y d)
sane-best w Nothing d h f = f
sane-best w (out.Dead c) d h f = f
sane-best w (Choose b) d h f = better_either (Fine w) (env_of w).rule b d (h.chosen b refl) f

-- an answer that was handed on
pub as_told : (w s : List ℕ) (r q : Walked) (whole : Answer (List ℕ)) → r ≡ q → ended q s ≡ whole → Sane w q.out → (ended r s ≡ whole) × Sane w r.out
as_told w s r q whole e a h = (rw e a, rw e h)

-- n clauses in all, those before rank k behind; y is the answer so far, d the drops
pub record Stage (w s : List ℕ) (n k : ℕ) (y : Out) (d : ℕ) (whole : Answer (List ℕ)) : Type 0 where
  pub upto : k ≤ n
  pub size : n ≡ at clause_count 0 w
  pub few : n ≤ clauses
  pub sound : Sound w
  pub beside : Beside s w
  pub sane : Sane w y
  pub drops : d ≤ k
  pub rest : whole ≡ from_rank w (so_far y d) k s

-- its beginning, at any rank
pub stage_begin : (w : List ℕ) (n k : ℕ) (y : Out) (d : ℕ) → Sound w → n ≡ at clause_count 0 w → k ≤ at clause_count 0 w → Sane w y → d ≤ k → Stage w w n k y d (from_rank w (so_far y d) k w)
stage_begin w n k y d h e u f z =
    record {
      upto = omega arith;
      size = e;
      few = omega (arith, h.ranges clause_count clauses tt 0);
      sound = h;
      beside = beside_self w h;
      sane = f;
      drops = z;
      rest = refl;
    }

-- the whole walk begins at rank 0, with no answer
pub whole_is : (w : List ℕ) → from_rank w (so_far Nothing 0) 0 w ≡ answer w
unfolding answer up_to
whole_is w =
    let z : at clause_count 0 w - 0 ≡ at clause_count 0 w = omega arith in
    let y : 0 + at clause_count 0 w ≡ at clause_count 0 w = omega arith in
    let walk : Answer (List ℕ) → ℕ → Answer (List ℕ) = queued_turn word_operations (env_of w) in
    rw z (onward-is walk (ended (so_far Nothing 0) w) 0 (at clause_count 0 w) ∙ ap (up_to walk (ended (so_far Nothing 0) w)) y)

-- a turn that examines nothing leaves the answer; and where nothing is examined any more, no clause matters
unexamined_turn : (e : Environment) (y : Out) (d : ℕ) (s : List ℕ) (k : ℕ) → examines e y k ≡ false → queued_turn word_operations e (ended (so_far y d) s) k ≡ ended (so_far y d) s
unfolding queued_turn
unexamined_turn e y d s k h = rw (h, and_none)

stays-ended : (e : Environment) (y : Out) (d : ℕ) (s : List ℕ) → ((k : ℕ) → examines e y k ≡ false) → (ks : List ℕ) → onward e (ended (so_far y d) s) ks ≡ ended (so_far y d) s
stays-ended e y d s h [] = refl
stays-ended e y d s h (k ∷ ks) = rw (unexamined_turn e y d s k (h k)) (stays-ended e y d s h ks)

-- what an examination makes of the answer so far
abbrev turned : Environment → Out → ℕ → ℕ → Finding → Walked
turned e y k d Shut = so_far y (suc d)
turned e y k d (Open x n m) = so_far (after_finding e y k (Open x n m)) d
turned e y k d finding.Dead = so_far (after_finding e y k finding.Dead) d

examined-turn : (e : Environment) (y : Out) (d : ℕ) (s : List ℕ) (k : ℕ) → mark_of s k ≡ true → examines e y k ≡ true →
    queued_turn word_operations e (ended (so_far y d) s) k ≡ ended (turned e y k d (finding_at s k)) (examined s k)
unfolding queued_turn examined
examined-turn e y d s k m h = rw (m, h) (go (finding_at s k))
  where
    go : (v : Finding) → after_examining word_operations e (ended (so_far y d) s) k v ≡ ended (turned e y k d v) (left_by v (filled s k) (dropped (filled s k) k))
    go Shut = refl
    go (Open x n m) = refl
    go finding.Dead = refl

module _ (w s : List ℕ) (n k : ℕ) (y : Out) (d : ℕ) (whole : Answer (List ℕ)) (here : Stage w s n k y d whole) where
  -- its end: behind the last clause, or where nothing is examined any more
  pub stage_ends : n ≤ k → ended (so_far y d) s ≡ whole
  stage_ends h = sym (here.rest ∙ rw (upto_done (λ (j : ℕ). j) k (at clause_count 0 w) (omega (arith, here.size))))

  pub stage_over : ((j : ℕ) → examines (env_of w) y j ≡ false) → ended (so_far y d) s ≡ whole
  stage_over h = sym (here.rest ∙ stays-ended (env_of w) y d s h (from (λ j. j) k (at clause_count 0 w - k)))

  -- handed on: the rest of the walk, begun at these words
  pub stage_handed : from_rank s (so_far y d) k s ≡ whole
  stage_handed = ap (λ (e : Environment). onward e (ended (so_far y d) s) (from (λ j. j) k (e.size - k))) (env-beside s w here.beside) ∙ sym here.rest

  module _ (more : k < n) where
    stage-inside : k < at clause_count 0 w
    stage-inside = omega (arith, here.size)

    pub stage_ready : (Sound s) × (k < at clause_count 0 s)
    stage_ready = (here.beside.sound, clause-beside s w here.beside k stage-inside)

    abbrev later : List ℕ
    later = from (λ j. j) (k + 1) (at clause_count 0 w - (k + 1))

    stage-turn : (x : Walked) (u : List ℕ) → queued_turn word_operations (env_of w) (ended (so_far y d) s) k ≡ ended x u → whole ≡ onward (env_of w) (ended x u) later
    stage-turn x u e = here.rest ∙ rw (upto_next (λ (j : ℕ). j) k (at clause_count 0 w) stage-inside) (ap (λ z. onward (env_of w) z later) e)

    stage-step : (z : Out) (c : ℕ) (u : List ℕ) → queued_turn word_operations (env_of w) (ended (so_far y d) s) k ≡ ended (so_far z c) u → Beside u w → Sane w z → c ≤ k + 1 → Stage w u n (k + 1) z c whole
    stage-step z c u e g h l = record { upto = omega arith; size = here.size; few = here.few; sound = here.sound; beside = g; sane = h; drops = l; rest = stage-turn (so_far z c) u e }

    -- a clause out of the queue, and one that the walk does not examine
    stage-skip : mark_of s k ≡ false → Stage w s n (k + 1) y d whole
    unfolding queued_turn
    stage-skip m = stage-step y d s (rw m) here.beside here.sane (omega (arith, here.drops))

    pub stage_pass : examines (env_of w) y k ≡ false → Stage w s n (k + 1) y d whole
    stage_pass t = stage-step y d s (unexamined_turn (env_of w) y d s k t) here.beside here.sane (omega (arith, here.drops))

    -- one that it examines
    module _ (m : mark_of s k ≡ true) (t : examines (env_of w) y k ≡ true) (u : List ℕ) (q : u ≡ examined s k) where
      pub stage_beside : Beside u w
      stage_beside = rw q (beside-examined s w here.beside k stage-inside)

      turned-is : queued_turn word_operations (env_of w) (ended (so_far y d) s) k ≡ ended (turned (env_of w) y k d (finding_at s k)) u
      turned-is = examined-turn (env_of w) y d s k m t ∙ rw (← q)

      pub stage_shut : finding_at s k ≡ Shut → Stage w u n (k + 1) y (d + 1) whole
      stage_shut h = stage-step y (d + 1) u (turned-is ∙ rw (h, add-one d)) stage_beside here.sane (omega (arith, here.drops))

      pub stage_open : (x i c : ℕ) → finding_at s k ≡ Open x i c → Stage w u n (k + 1) (Choose (best_of (env_of w) y (best (env_of w) k x i c))) d whole
      stage_open x i c h =
          stage-step (Choose (best_of (env_of w) y (best (env_of w) k x i c))) d u (turned-is ∙ rw h) stage_beside
          (sane_choose w _ (sane-best w y (best (env_of w) k x i c) here.sane (best_fine w k x i c here.sound stage-inside))) (omega (arith, here.drops))

      pub stage_dead : finding_at s k ≡ finding.Dead → ended (dying (at clause_ids k u) d) u ≡ whole
      stage_dead h =
          let same : at clause_ids k u ≡ of_clause clause_ids w k = at-beside u w stage_beside clause_ids tt k ∙ sym (clause-word clause_ids w k stage-inside) in
          sym (stage-turn (so_far (out.Dead (of_clause clause_ids w k)) d) u (turned-is ∙ rw h) ∙ rw same (stays-ended (env_of w) (out.Dead (of_clause clause_ids w k)) d u (λ _. refl) later))

-- from one queued clause to the next: the walk does nothing at those between
pub stage_next : (w s : List ℕ) (n k : ℕ) (y : Out) (d : ℕ) (whole : Answer (List ℕ)) → Stage w s n k y d whole → (r : ℕ) → r ≡ next_queued s k (n - k) →
    Stage w s n r y d whole × (r < n → mark_of s r ≡ true)
stage_next w s n k y d whole here r e = (
  rw e (first_along (mark_of s) n (λ j. Stage w s n j y d whole) (λ j l m p. stage-skip w s n j y d whole p l m) k (n - k) (omega (arith, here.upto)) here),
  λ l. rw e (first_passes (mark_of s) k (n - k) (omega (arith, here.upto, e, l))),
)

-- less is left after it
pub next_less : (s : List ℕ) (k n r : ℕ) → k < n → r ≡ next_queued s (k + 1) (n - (k + 1)) → n - r < n - k
next_less s k n r l e = omega (arith, first-least (mark_of s) (k + 1) (n - (k + 1)))

-- it can be looked for in a store beside
pub next_ready : (s w : List ℕ) (k n : ℕ) → Beside s w → k ≤ n → n ≡ at clause_count 0 w → (Sound s) × (k ≤ n) × (n ≡ at clause_count 0 s)
next_ready s w k n g l e = (g.sound, l, e ∙ sym (at-beside s w g clause_count tt 0))

-- the whole walk's beginning
pub stage_first : (w : List ℕ) (n : ℕ) → Sound w → n ≡ at clause_count 0 w → Stage w w n 0 Nothing 0 (answer w)
stage_first w n h e = rw (← whole_is w) (stage_begin w n 0 Nothing 0 h e (omega arith) (sane-nothing w) (omega arith))

-- its first best, as the code has it, and the rest of the walk handed on with it
pub first-best : (w u : List ℕ) (n k d x i c : ℕ) (whole : Answer (List ℕ)) (b : Best) → Stage w u n (k + 1) (Choose (best (env_of w) k x i c)) d whole → b ≡ best_at u k x i c → Stage w u n (k + 1) (Choose b) d whole
unfolding best_at
first-best w u n k d x i c whole b here e = rw (e ∙ ap (λ (v : Environment). best v k x i c) (env-beside u w here.beside)) here

pub hand_ready : (w u : List ℕ) (n k d : ℕ) (whole : Answer (List ℕ)) (b : Best) → Stage w u n k (Choose b) d whole → (Sound u) × (k ≤ at clause_count 0 u) × (Fine u b) × (d ≤ k)
hand_ready w u n k d whole b here = (
  here.beside.sound,
  omega (arith, here.upto, here.size, at-beside u w here.beside clause_count tt 0),
  fine_beside u w b here.beside (here.sane.chosen b refl),
  here.drops,
)
