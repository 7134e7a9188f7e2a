-- A LIST IS DISTINCT exactly when no two of its places hold the same word. Assumes nothing.
use mathlib.Core.Bool.{true}
use mathlib.Core.List.{List}
use mathlib.Core.Path.{◌≡◌}
use Prim.Native.Nat.{ℕ, ◌<◌}
use native.Mathlib.Nat.{zero-add}
use borrow.Author.Tests.{eqb-false, not-true}
use lib.ListN.{length, get_or}
use Rattle.rules.proofs.Loops.{all-at, all_of}
use Rattle.tables.proofs.UnionLoading.{other_word}
use Rattle.tables.specs.Union.{differ, new_at, distinct}

module _ (l : List ℕ) where
  pub distinct_apart : distinct l ≡ true → (i j : ℕ) → j < i → i < length l → get_or l j 0 ≡ get_or l i 0 → ⊥
  unfolding distinct new_at differ
  distinct_apart e i j h k =
      let a = rw (zero-add i) at (all-at (new_at l) 0 (length l) i e k) in
      let b = rw (zero-add j) at (all-at (differ l i) 0 i j a h) in
      eqb-false (get_or l j 0) (get_or l i 0) (not-true _ b)

  pub apart_distinct : ((i j : ℕ) → j < i → i < length l → get_or l j 0 ≡ get_or l i 0 → ⊥) → distinct l ≡ true
  unfolding distinct new_at
  apart_distinct f =
      all_of (new_at l) 0 (length l)
      (λ i k. rw zero-add (all_of (differ l i) 0 i (λ j h. rw zero-add (other_word l i j (f i j h k)))))
