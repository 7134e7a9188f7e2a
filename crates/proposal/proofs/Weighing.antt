-- A clause weighed against the best so far: what the code's tests say of it, and the turn of the walk that it is. Assumes nothing.
use mathlib.Core.Bool.{Bool, true, false, cond}
use mathlib.Core.List.{List}
use mathlib.Core.Path.{◌≡◌, refl, sym, ap, ◌∙◌}
use Prim.Native.Nat.{ℕ, ◌+◌, ◌≤◌, ◌<◌}
use native.Mathlib.Nat.{add-zero}
use native.Mathlib.Omega.{arith}
use borrow.Author.Tests.{eq-eqb}
use Rattle.examine.proofs.Stand.{Beside, at-beside, beside-examined, beside_self, env-beside}
use Rattle.examine.specs.Cache.{examined, finding_at}
use Rattle.meaning.specs.Standing.{env_of, mark_of}
use Rattle.proposal.proofs.Walking.{Stage, fine_beside, sane_choose, stage_begin, stage_dead, stage_open, stage_over, stage_pass, stage_ready, stage_shut}
use Rattle.proposal.specs.Propose.{choosing, dying, ended, from_rank}
use Rattle.proposal.specs.Turn.{Fine, best_at, largest_at, passed_at, stops_at, top_at, weigh_by, weigh_of, weighed}
use Rattle.rules.proofs.Choice.{true_false}
use Rattle.rules.specs.Queue.{Answer}
use Rattle.rules.specs.Walk.{Environment, best, better, examines, largest, narrow, passed_over, stops}
use Rattle.store.specs.Area.{at}
use Rattle.store.specs.Layout.{activities, clause_count, clause_ids}
use Rattle.store.specs.Limits.{names}
use Rattle.store.specs.Shape.{Sound}
use Rattle.rules.specs.declared.Best.{Best}
use Rattle.rules.specs.declared.Out.TheVariants.{Choose}
use Rattle.rules.specs.declared.Finding.{Finding}
use Rattle.rules.specs.declared.Finding.TheVariants.{Shut, Open}
use Rattle.rules.specs.declared.Finding.TheVariants as finding
use Rattle.proposal.specs.declared.decide_queue.Weighed.TheVariants.{On, Enough}
use Rattle.proposal.specs.declared.decide_queue.Weighed.TheVariants as weighing

-- what a weighing says where a clause is found open
module _ (w : List ℕ) (b : Best) (rank : ℕ) (t : stops_at w b ≡ false) (k : ℕ) (is : k ≡ rank) (p : passed_at w b k ≡ false) (s : List ℕ) (q : s ≡ examined w k) (ok : Sound w) (l : rank < at clause_count 0 w) where
  pub examined-beside : Beside s w
  examined-beside = rw (q, is) (beside-examined w w (beside_self w ok) rank l)

  pub weigh_open : (d e : Best) (x n c : ℕ) → finding_at w k ≡ Open x n c → d ≡ best_at s rank x n c → e ≡ better 1 b d → On e 0 ≡ weigh_of w b rank
  unfolding weigh_of best_at
  weigh_open d e x n c h z y =
      let a : at activities n s ≡ at activities n w = at-beside s w examined-beside activities tt n in
      let f : e ≡ better 1 b (best_at w rank x n c) = y ∙ ap (better 1 b) (z ∙ rw a) in
      rw (f, ← is, t, p, h)

-- the largest activity is the same in a store beside
pub top_same : (s w : List ℕ) → Beside s w → top_at s ≡ top_at w
unfolding top_at largest_at
top_same s w g = ap (λ (e : Environment). cond (narrow e) (largest e.activity names) 0) (env-beside s w g)

-- THE TURN OF THE WALK that a weighing is
module _ (w s : List ℕ) (n k : ℕ) (b : Best) (d : ℕ) (whole : Answer (List ℕ)) (here : Stage w s n k (Choose b) d whole) (more : k < n) where
  pub weigh_ready : (top : ℕ) → top ≡ top_at w → (Sound s) × (k < at clause_count 0 s) × (Fine s b) × (top ≡ top_at s)
  weigh_ready top e =
      let r = stage_ready w s n k (Choose b) d whole here more in
      (r.0, r.1, fine_beside s w b here.beside (here.sane.chosen b refl), e ∙ sym (top_same s w here.beside))

  -- the weighing at the environment that the walk began with
  weigh-is : weigh_of s b k ≡ weigh_by (stops (env_of w) b) (passed_over (env_of w) b k) (finding_at s k) b (λ x i c. better (env_of w).rule b (best (env_of w) k x i c))
  unfolding weigh_of stops_at passed_at best_at
  weigh-is = ap (λ (e : Environment). weigh_by (stops e b) (passed_over e b k) (finding_at s k) b (λ x i c. better e.rule b (best e k x i c))) (env-beside s w here.beside)

  weighed-is : weighed s b k ≡ cond (stops (env_of w) b) s (cond (passed_over (env_of w) b k) s (examined s k))
  unfolding weighed stops_at passed_at
  weighed-is = ap (λ (e : Environment). cond (stops e b) s (cond (passed_over e b k) s (examined s k))) (env-beside s w here.beside)

  module _ (m : mark_of s k ≡ true) (u : List ℕ) (q : u ≡ weighed s b k) where
    -- by the walk's own tests
    module _ {P : Type 0} (enough : stops (env_of w) b ≡ true → u ≡ s → weigh_of s b k ≡ Enough → P)
        (passed : stops (env_of w) b ≡ false → passed_over (env_of w) b k ≡ true → u ≡ s → weigh_of s b k ≡ On b 0 → P)
        (looked : examines (env_of w) (Choose b) k ≡ true → u ≡ examined s k → weigh_of s b k ≡ weigh_by false false (finding_at s k) b (λ x i c. better (env_of w).rule b (best (env_of w) k x i c)) → P) where
      weigh-cases : P
      weigh-cases = go (stops (env_of w) b) (passed_over (env_of w) b k) refl refl
        where
          go : (t p : Bool) → stops (env_of w) b ≡ t → passed_over (env_of w) b k ≡ p → P
          go true p e f = enough e (q ∙ weighed-is ∙ rw e) (weigh-is ∙ rw e)
          go false true e f = passed e f (q ∙ weighed-is ∙ rw (e, f)) (weigh-is ∙ rw (e, f))
          go false false e f = looked (rw (e, f)) (q ∙ weighed-is ∙ rw (e, f)) (weigh-is ∙ rw (e, f))

    pub weighed_on : (c : Best) (x : ℕ) → weigh_of s b k ≡ On c x → Stage w u n (k + 1) (Choose c) (d + x) whole
    weighed_on c x h =
        weigh-cases (λ e f g. absurd (true_false (cc)))
        (λ e f g z.
        let p : b ≡ c = cc in
        let y : 0 ≡ x = cc in
        rw (g, ← p, ← y, add-zero d) (stage_pass w s n k (Choose b) d whole here more (rw (e, f))))
        (λ t g z. found t g (finding_at s k) refl (sym z ∙ h))
      where
        found : examines (env_of w) (Choose b) k ≡ true → u ≡ examined s k → (v : Finding) → finding_at s k ≡ v →
            weigh_by false false v b (λ x i c. better (env_of w).rule b (best (env_of w) k x i c)) ≡ On c x → Stage w u n (k + 1) (Choose c) (d + x) whole
        found t g Shut e z =
            let p : b ≡ c = cc in
            let y : 1 ≡ x = cc in
            rw (← p, ← y) (stage_shut w s n k (Choose b) d whole here more m t u g e)
        found t g (Open a i j) e z =
            let p : better (env_of w).rule b (best (env_of w) k a i j) ≡ c = cc in
            let y : 0 ≡ x = cc in
            rw (← p, ← y, add-zero d) (stage_open w s n k (Choose b) d whole here more m t u g a i j e)
        found t g finding.Dead e z = absurd (true_false (cc))

    pub weighed_enough : weigh_of s b k ≡ Enough → ended (choosing b d) u ≡ whole
    weighed_enough h =
        weigh-cases (λ e f g. rw f (stage_over w s n k (Choose b) d whole here (λ j. rw e))) (λ e f g z. absurd (true_false (cc)))
        (λ t g z. absurd (none (finding_at s k) (sym z ∙ h)))
      where
        none : (v : Finding) → weigh_by false false v b (λ x i c. better (env_of w).rule b (best (env_of w) k x i c)) ≡ Enough → ⊥
        none Shut z = true_false (cc)
        none (Open a i j) z = true_false (cc)
        none finding.Dead z = true_false (cc)

    pub weighed-dead : weigh_of s b k ≡ weighing.Dead → ended (dying (at clause_ids k u) d) u ≡ whole
    weighed-dead h =
        weigh-cases (λ e f g. absurd (true_false (cc))) (λ e f g z. absurd (true_false (cc)))
        (λ t g z. stage_dead w s n k (Choose b) d whole here more m t u g (dead (finding_at s k) (sym z ∙ h)))
      where
        dead : (v : Finding) → weigh_by false false v b (λ x i c. better (env_of w).rule b (best (env_of w) k x i c)) ≡ weighing.Dead → v ≡ finding.Dead
        dead Shut z = absurd (true_false (cc))
        dead (Open a i j) z = absurd (true_false (cc))
        dead finding.Dead z = refl

    pub weighed-beside : Beside u w
    weighed-beside =
        weigh-cases (λ e f g. rw f here.beside) (λ e f g z. rw g here.beside)
        (λ t g z. rw g (beside-examined s w here.beside k (omega (arith, here.size))))

-- a best of count 1 ends the walk at once
pub one_ends : (w : List ℕ) (b : Best) (k d : ℕ) → Sound w → k ≤ at clause_count 0 w → Fine w b → d ≤ k → b.count ≡ 1 → ended (choosing b d) w ≡ from_rank w (choosing b d) k w
one_ends w b k d h l f z e =
    stage_over w w (at clause_count 0 w) k (Choose b) d (from_rank w (choosing b d) k w) (stage_begin w (at clause_count 0 w) k (Choose b) d h refl l (sane_choose w b f) z)
    (λ j. rw (eq-eqb b.count 1 e))
