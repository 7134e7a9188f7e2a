-- An area's words as a function of their place; lists that pass a test; how long the lists are that the words stand for. Assumes nothing.
use mathlib.Core.Bool.{Bool, true}
use mathlib.Core.List.{List, [], ◌∷◌, ◌++◌}
use mathlib.Core.Path.{◌≡◌, refl}
use Prim.Native.Nat.{ℕ, zero, suc, ◌+◌, ◌≤◌}
use native.Mathlib.Omega.{arith}
use borrow.Author.Tests.{le-leb}
use lib.ListN.{length, take, drop, length-take}
use Rattle.meaning.specs.Standing.{entry_at, mirror_of, trail_of}
use Rattle.rules.proofs.Choice.{both}
use Rattle.rules.proofs.Froms.{length_from, part-from}
use Rattle.rules.specs.Numbers.{from}
use Rattle.store.proofs.AreaLaws.{length_area}
use Rattle.store.specs.declared.area.Area.{Area}
use Rattle.store.specs.Area.{Fits, area, at}
use Rattle.store.specs.Layout.{mirror, mirror_length, trail_length}
use Rattle.store.specs.Limits.{trail_room}
use Rattle.store.specs.Shape.{Sound, every, up_to}

-- a part of an area, place by place
pub area-from : (a : Area) (w : List ℕ) (i n : ℕ) → Fits a w → i + n ≤ a.size → take n (drop i (area a w)) ≡ from (λ k. at a k w) i n
unfolding at
area-from a w i n f h = part-from (area a w) i n (omega (arith, length_area a w f))

-- all are in range
pub every-from : (m : ℕ) (f : ℕ → ℕ) → ((k : ℕ) → f k ≤ m) → (i n : ℕ) → every (up_to m) (from f i n) ≡ true
unfolding every from
every-from m f h i zero = refl
every-from m f h i (suc n) = rw (le-leb (f i) m (h i), every-from m f h (i + 1) n)

pub every-both : (p : ℕ → Bool) (xs ys : List ℕ) → every p xs ≡ true → every p ys ≡ true → every p (xs ++ ys) ≡ true
unfolding every
every-both p [] ys e f = f
every-both p (x ∷ xs) ys e f = let b = both (p x) (every p xs) e in rw b.0 (every-both p xs ys b.1 f)

-- how long the lists are that the words stand for
pub length_trail : (w : List ℕ) → length (trail_of w) ≡ at trail_length 0 w
unfolding trail_of
length_trail w = length_from (entry_at w) 0 (at trail_length 0 w)

pub length_mirror : (w : List ℕ) → Sound w → length (mirror_of w) ≡ at mirror_length 0 w
unfolding mirror_of
length_mirror w h =
    omega (arith, length-take (at mirror_length 0 w) (area mirror w), length_area mirror w (omega (arith, h.long)), h.ranges mirror_length trail_room tt 0)
