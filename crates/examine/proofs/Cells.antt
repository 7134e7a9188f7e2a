-- The cells of a list, and what the library's searches say of them. Assumes nothing.
use Rattle.meaning.proofs.Reading.{span_of}
use Rattle.std.specs.Prelude.{Some}
use Rattle.std.specs.List.{All, find, count_by, sum_by}
use Rattle.std.proofs.lemmas.List.{get_or_default}
use Rattle.std.proofs.lemmas.List.Recursion.{is_count_by, is_sum_by}
use mathlib.Core.Bool.{Bool, true, false, cond}
use mathlib.Core.List.{List, [], ◌∷◌}
use mathlib.Core.Path.{◌≡◌, refl, ap, sym}
use Prim.Native.Nat.{ℕ, suc, ◌+◌, ◌-◌, ◌<◌}
use native.Mathlib.Omega.{arith}
use lib.ListN.{take, drop, length-take}
use lib.Seq.{get_or-take, get_or-drop}
use Rattle.requirement.specs.Tables.{cells_of}
use Rattle.rules.specs.Walk.{first_that, count_undecided, is_undecided}
use Rattle.rules.specs.declared.Value.{Value}
use Rattle.store.specs.Area.{area, at}
use Rattle.store.specs.Layout.{candidates, list_starts, list_lengths}
use Rattle.store.specs.Limits.{last_variable, variables}
use Rattle.store.specs.Shape.{Sound}

-- each cell names a variable
cells_named : (w : List ℕ) (slot : ℕ) → Sound w → All (λ x. x < variables) (cells_of w slot)
unfolding cells_of at
cells_named w slot h = λ k d l.
    let few : k < at list_lengths slot w = omega (arith, length-take (at list_lengths slot w) (drop (at list_starts slot w) (area candidates w))) in
    let most = h.ranges candidates last_variable tt (at list_starts slot w + k) in
    rw (
      get_or_default (take (at list_lengths slot w) (drop (at list_starts slot w) (area candidates w))) k d 0 l,
      get_or-take (at list_lengths slot w) (drop (at list_starts slot w) (area candidates w)) k 0 few,
      get_or-drop (at list_starts slot w) (area candidates w) k 0,
    )
    (omega (arith, most))

-- of the part of the cells that a list is
pub part_named : (w : List ℕ) (slot : ℕ) → Sound w → (start n : ℕ) (cells : List ℕ) → start ≡ at list_starts slot w → n ≡ at list_lengths slot w → cells ≡ area candidates w → All (λ x. x < variables) (take (start + n - start) (drop start cells))
unfolding cells_of
part_named w slot h start n cells p q e =
    let z : start + n - start ≡ n = omega arith in
    rw (z, p, q, e) (cells_named w slot h)

-- the first that passes
pub found_is : (p : ℕ → Bool) (xs : List ℕ) → find p xs ≡ first_that p xs
unfolding first_that
found_is p [] = refl
found_is p (x ∷ xs) = ap (cond (p x) (Some x)) (found_is p xs)

-- how many are undecided: the count of those that are
pub counted_is : (a : ℕ → Value) (xs : List ℕ) → count_by (λ v. is_undecided (a v)) xs ≡ count_undecided a xs
unfolding count_undecided
counted_is a xs = sym (is_count_by (count_undecided a) (λ v. is_undecided (a v)) refl (λ x ys. go (is_undecided (a x)) (count_undecided a ys)) xs)
  where
    go : (b : Bool) (n : ℕ) → cond b (suc n) n ≡ cond b (1 + n) n
    go true n = omega arith
    go false n = refl

-- and the sum of a one for each
pub undecided_sum : (a : ℕ → Value) (xs : List ℕ) → sum_by (λ v. cond (is_undecided (a v)) 1 0) xs ≡ count_undecided a xs
unfolding count_undecided
undecided_sum a xs = sym (is_sum_by (count_undecided a) (λ v. cond (is_undecided (a v)) 1 0) refl (λ x ys. go (is_undecided (a x)) (count_undecided a ys)) xs)
  where
    go : (b : Bool) (n : ℕ) → cond b (suc n) n ≡ cond b 1 0 + n
    go true n = omega arith
    go false n = omega arith

-- for the part of the cells that a list is
pub ruleset part = (span_of, part_named)
