-- A sweep over an area: a turn of its loop, what it leaves of its area and of the others. Assumes nothing.
use mathlib.Core.Bool.{Bool, true, false, cond}
use mathlib.Core.List.{List}
use mathlib.Core.Logic.{⊎_elim}
use mathlib.Core.Path.{◌≡◌, refl, sym, ap, ◌∙◌}
use Prim.Native.Nat.{ℕ, zero, suc, ◌+◌, ◌≤◌, ◌<◌}
use native.Mathlib.Numerals.{add-one}
use native.Mathlib.Omega.{arith}
use lib.Dec.{T}
use lib.ListN.{length}
use Rattle.store.proofs.AreaLaws.{length_put, at-put-same, at-put_else, area_kept}
use Rattle.rules.proofs.Choice.{eq_or}
use Rattle.store.proofs.Soundness.{untied, sound-put}
use Rattle.store.specs.declared.area.Area.{Area}
use Rattle.store.specs.Area.{area, at, put, Fits, apart, ◌upto◌}
use Rattle.store.specs.Layout.{table}
use Rattle.store.specs.Shape.{listed, Sound}
use Rattle.sync.specs.Sweep.{sweep}

module _ (a : Area) (p : ℕ → Bool) (x : ℕ) (w : List ℕ) where
  -- what holds of the first words and is kept by a write holds of the swept words
  leaves : (P : List ℕ → Type 0) → P w → ((i : ℕ) (s : List ℕ) → i < a.size → P s → P (put a i x s)) → (n : ℕ) → n ≤ a.size → P (sweep a p x w n)
  unfolding sweep
  leaves P z step zero h = z
  leaves P z step (suc n) h = go (p n) (leaves P z step n (omega arith))
    where
      go : (b : Bool) → P (sweep a p x w n) → P (cond b (put a n x (sweep a p x w n)) (sweep a p x w n))
      go true q = step n (sweep a p x w n) (omega arith) q
      go false q = q

  pub length_sweep : (n : ℕ) → n ≤ a.size → length (sweep a p x w n) ≡ length w
  length_sweep n h = leaves (λ s. length s ≡ length w) refl (λ i s l q. length_put a i x s ∙ q) n h

  -- every other area stays
  pub area-sweep : (b : Area) → T (apart b a) → (n : ℕ) → n ≤ a.size → area b (sweep a p x w n) ≡ area b w
  area-sweep b t n h = leaves (λ s. area b s ≡ area b w) refl (λ i s l q. area_kept b a i x s t l ∙ q) n h

  -- so does a sound shape, where no tie binds the area
  pub sound-sweep : (m : ℕ) → T (listed (a upto m) table) → T (untied a) → x ≤ m → Sound w → (n : ℕ) → n ≤ a.size → Sound (sweep a p x w n)
  sound-sweep m t u k z n h = leaves Sound z (λ i s l q. sound-put a m i x s t u l k q) n h

  -- a word that the sweep has not reached
  pub at-sweep_else : (j n : ℕ) → n ≤ a.size → n ≤ j → at a j (sweep a p x w n) ≡ at a j w
  unfolding sweep
  at-sweep_else j zero h l = refl
  at-sweep_else j (suc n) h l = go (p n) (at-sweep_else j n (omega arith) (omega arith))
    where
      go : (b : Bool) → at a j (sweep a p x w n) ≡ at a j w → at a j (cond b (put a n x (sweep a p x w n)) (sweep a p x w n)) ≡ at a j w
      go true q = at-put_else a n j x (sweep a p x w n) (omega arith) (omega arith) ∙ q
      go false q = q

  -- a word that it has
  pub at-sweep : Fits a w → (j n : ℕ) → n ≤ a.size → j < n → at a j (sweep a p x w n) ≡ cond (p j) x (at a j w)
  unfolding sweep
  at-sweep f j zero h l = absurd (omega arith)
  at-sweep f j (suc n) h l = ⊎_elim (λ (e : j ≡ n). rw e (last (p n) refl)) (λ (e : j ≡ n → ⊥). before (p n) (omega arith) e (at-sweep f j n (omega arith) (omega arith))) (eq_or j n)
    where
      long : length (sweep a p x w n) ≡ length w
      long = length_sweep n (omega arith)

      last : (b : Bool) → p n ≡ b → at a n (cond b (put a n x (sweep a p x w n)) (sweep a p x w n)) ≡ cond b x (at a n w)
      last true e = at-put-same a n x (sweep a p x w n) (omega arith) (omega (arith, long))
      last false e = at-sweep_else n n (omega arith) (omega arith)

      before : (b : Bool) → n < a.size → (j ≡ n → ⊥) → at a j (sweep a p x w n) ≡ cond (p j) x (at a j w) → at a j (cond b (put a n x (sweep a p x w n)) (sweep a p x w n)) ≡ cond (p j) x (at a j w)
      before true k e q = at-put_else a n j x (sweep a p x w n) k e ∙ q
      before false k e q = q

  -- a sweep that picks no word
  pub sweep_idle : (n : ℕ) → ((i : ℕ) → i < n → p i ≡ false) → w ≡ sweep a p x w n
  unfolding sweep
  sweep_idle zero f = refl
  sweep_idle (suc n) f = rw (f n (omega arith)) (sweep_idle n (λ i h. f i (omega arith)))

  -- the loop: what was swept so far, and one word more
  module _ (s : List ℕ) (k : ℕ) (so : s ≡ sweep a p x w k) where
    pub sweep_set : p k ≡ true → put a k x s ≡ sweep a p x w (k + 1)
    unfolding sweep
    sweep_set e = rw (add-one k, sweep, e) (ap (put a k x) so)

    pub sweep_skip : p k ≡ false → s ≡ sweep a p x w (k + 1)
    unfolding sweep
    sweep_skip e = rw (add-one k, sweep, e) so

-- a sweep that goes on where another ended: it picks nothing before, and from there on what the other would
pub sweep_on : (a : Area) (p q : ℕ → Bool) (x : ℕ) (w s : List ℕ) (k : ℕ) → s ≡ sweep a p x w k → ((i : ℕ) → i < k → q i ≡ false) → ((i : ℕ) → k ≤ i → q i ≡ p i) → (n : ℕ) → sweep a q x s (k + n) ≡ sweep a p x w (k + n)
unfolding sweep
sweep_on a p q x w s k so f g zero =
    let e : k + zero ≡ k = omega arith in
    rw e (sym (sweep_idle a q x s k f) ∙ so)
sweep_on a p q x w s k so f g (suc n) =
    let e : k + suc n ≡ suc (k + n) = omega arith in
    rw (e, sweep, g (k + n) (omega arith), sweep_on a p q x w s k so f g n)

pub sweep-none : (a : Area) (p : ℕ → Bool) (x : ℕ) (w : List ℕ) → w ≡ sweep a p x w 0
unfolding sweep
sweep-none a p x w = refl

-- two tests that agree sweep alike
pub sweep-same : (a : Area) (p q : ℕ → Bool) (x : ℕ) (w : List ℕ) (n : ℕ) → ((i : ℕ) → p i ≡ q i) → sweep a p x w n ≡ sweep a q x w n
unfolding sweep
sweep-same a p q x w zero h = refl
sweep-same a p q x w (suc n) h = rw (h n, sweep-same a p q x w n h)
