-- What a function says of a run of numbers: its parts, and a list's elements as such. Assumes nothing.
use mathlib.Core.List.{List, [], ◌∷◌, ◌++◌}
use mathlib.Core.Path.{◌≡◌, refl, ap, sym, ◌∙◌}
use Prim.Native.Nat.{ℕ, zero, suc, ◌+◌, ◌-◌, ◌≤◌, ◌<◌}
use native.Mathlib.Nat.{add-zero, zero-add}
use native.Mathlib.Numerals.{add-one}
use native.Mathlib.Omega.{arith}
use lib.ListN.{length, get_or, take, drop}
use lib.Seq.{drop-cons}
use Rattle.rules.specs.Numbers.{from}

module _ {A : Type 0} (f : ℕ → A) where
  pub length_from : (i n : ℕ) → length (from f i n) ≡ n
  unfolding from
  length_from i zero = refl
  length_from i (suc n) = ap suc (length_from (i + 1) n)

  pub from_append : (i m n : ℕ) → from f i (m + n) ≡ from f i m ++ from f (i + m) n
  unfolding from
  from_append i zero n = rw (zero-add n, add-zero i)
  from_append i (suc m) n =
      let e : i + 1 + m ≡ i + suc m = omega arith in
      let z : suc m + n ≡ suc (m + n) = omega arith in
      ap (from f i) z ∙ ap (λ l. f i ∷ l) (from_append (i + 1) m n ∙ ap (λ k. from f (i + 1) m ++ from f k n) e)

  pub take_from : (k i n : ℕ) → k ≤ n → take k (from f i n) ≡ from f i k
  unfolding from
  take_from zero i n h = refl
  take_from (suc k) i zero h = absurd (omega arith)
  take_from (suc k) i (suc n) h = ap (λ l. f i ∷ l) (take_from k (i + 1) n (omega arith))

  pub drop-from : (k i n : ℕ) → k ≤ n → drop k (from f i n) ≡ from f (i + k) (n - k)
  unfolding from
  drop-from zero i n h =
      let e : n - 0 ≡ n = omega arith in
      rw (e, add-zero i)
  drop-from (suc k) i zero h = absurd (omega arith)
  drop-from (suc k) i (suc n) h =
      let e : i + 1 + k ≡ i + suc k = omega arith in
      let z : n - k ≡ suc n - suc k = omega arith in
      drop-from k (i + 1) n (omega arith) ∙ rw (e, z)

  pub from_more : (i n : ℕ) → from f i (suc n) ≡ from f i n ++ (f (i + n) ∷ [])
  unfolding from
  from_more i n =
      let e : suc n ≡ n + 1 = omega arith in
      ap (from f i) e ∙ from_append i n 1

  pub get_d_from : (i k n : ℕ) (d : A) → k < n → get_or (from f i n) k d ≡ f (i + k)
  unfolding from
  get_d_from i k zero d h = absurd (omega arith)
  get_d_from i zero (suc n) d h = ap f (sym (add-zero i))
  get_d_from i (suc k) (suc n) d h =
      let e : i + 1 + k ≡ i + suc k = omega arith in
      get_d_from (i + 1) k n d (omega arith) ∙ ap f e

  -- the number at a turn, and those behind it
  pub upto_next : (i n : ℕ) → i < n → from f i (n - i) ≡ f i ∷ from f (i + 1) (n - (i + 1))
  unfolding from
  upto_next i n h =
      let e : n - i ≡ suc (n - (i + 1)) = omega arith in
      rw e

  pub upto_done : (i n : ℕ) → n ≤ i → from f i (n - i) ≡ []
  unfolding from
  upto_done i n h =
      let e : n - i ≡ 0 = omega arith in
      rw e

-- what two functions that agree on the numbers say of them
pub from_agree : {A : Type 0} (f g : ℕ → A) (i n : ℕ) → ((k : ℕ) → i ≤ k → k < i + n → f k ≡ g k) → from f i n ≡ from g i n
unfolding from
from_agree f g i zero h = refl
from_agree f g i (suc n) h = rw (h i (omega arith) (omega arith), from_agree f g (i + 1) n (λ k a b. h k (omega arith) (omega arith)))

pub from-same : {A : Type 0} (f g : ℕ → A) → ((i : ℕ) → f i ≡ g i) → (i n : ℕ) → from f i n ≡ from g i n
from-same f g h i n = from_agree f g i n (λ k a b. h k)

-- a part of a list, number by number
pub part-from : (l : List ℕ) (i n : ℕ) → i + n ≤ length l → take n (drop i l) ≡ from (λ k. get_or l k 0) i n
unfolding from
part-from l i zero h = refl
part-from l i (suc n) h =
    ap (take (suc n)) (drop-cons l i 0 (omega arith))
    ∙ ap (λ r. get_or l i 0 ∷ r) (ap (λ k. take n (drop k l)) (sym (add-one i)) ∙ part-from l (i + 1) n (omega arith))

-- a loop over what a function says of n numbers: what is left at a turn
module _ {A : Type 0} (f : ℕ → A) (t n : ℕ) where
  pub from_next : (i : ℕ) → i < n → from f (t + i) (n - i) ≡ f (t + i) ∷ from f (t + (i + 1)) (n - (i + 1))
  unfolding from
  from_next i h =
      let e : n - i ≡ suc (n - (i + 1)) = omega arith in
      let z : t + i + 1 ≡ t + (i + 1) = omega arith in
      rw (e, z)

  pub from-done : (i : ℕ) → n ≤ i → from f (t + i) (n - i) ≡ []
  unfolding from
  from-done i h =
      let e : n - i ≡ 0 = omega arith in
      rw e
