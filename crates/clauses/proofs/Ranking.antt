-- The rank of a new clause: the loop that looks for it, from the last clause down; f gives the parent of each. Assumes nothing.
use mathlib.Core.Bool.{cond}
use mathlib.Core.List.{List}
use mathlib.Core.Path.{◌≡◌, sym, ap, ◌∙◌}
use Prim.Native.Nat.{ℕ, zero, suc, ◌-◌, ◌≤◌, ◌<◌}
use native.Mathlib.Omega.{arith}
use borrow.Author.Tests.{eq-eqb, ne_eqb}
use lib.Dec.{eqb}
use Rattle.clauses.specs.Record.{parent_at, rank_of}
use Rattle.rules.proofs.Ranks.{behind-most}
use Rattle.rules.specs.Store.{behind}
use Rattle.store.specs.Area.{at}
use Rattle.store.specs.Layout.{clause_count}

module _ (f : ℕ → ℕ) (p n : ℕ) where
  pub behind_hit : (k : ℕ) → behind f p n n ≡ behind f p k n → 0 < k → f (k - 1) ≡ p → k ≡ behind f p n n
  unfolding behind
  behind_hit zero so h e = absurd (omega arith)
  behind_hit (suc k) so h e =
      let z : suc k - 1 ≡ k = omega arith in
      let q : f k ≡ p = rw z at e in
      let step : cond (eqb (f k) p) (suc k) (behind f p k n) ≡ suc k = rw (eq-eqb _ _ q) in
      sym (so ∙ step)

  pub behind_more : (k : ℕ) → behind f p n n ≡ behind f p k n → 0 < k → (f (k - 1) ≡ p → ⊥) → behind f p n n ≡ behind f p (k - 1) n
  unfolding behind
  behind_more zero so h e = absurd (omega arith)
  behind_more (suc k) so h e =
      let z : suc k - 1 ≡ k = omega arith in
      let q : f k ≡ p → ⊥ = rw z at e in
      let step : cond (eqb (f k) p) (suc k) (behind f p k n) ≡ behind f p k n = rw (ne_eqb _ _ q) in
      so ∙ step ∙ ap (λ m. behind f p m n) (sym z)

  pub behind-none : (k : ℕ) → behind f p n n ≡ behind f p k n → k ≤ 0 → n ≡ behind f p n n
  unfolding behind
  behind-none zero so h = sym so
  behind-none (suc k) so h = absurd (omega arith)

-- a rank is a place among the clauses, or behind them
pub rank_most : (w : List ℕ) (parent : ℕ) → rank_of w parent ≤ at clause_count 0 w
rank_most w parent = behind-most (parent_at w) parent (at clause_count 0 w) (at clause_count 0 w) (omega arith)

pub ruleset by_behind = (behind_hit, behind_more, behind-none)
