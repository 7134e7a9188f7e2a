-- Counting distinct names: the loop, and that a requirement has at most eight. Assumes nothing.
use mathlib.Core.Bool.{Bool, true, false, cond}
use mathlib.Core.List.{List}
use mathlib.Core.Path.{◌≡◌, refl}
use Prim.Native.Nat.{ℕ, zero, suc, ◌+◌, ◌≤◌}
use native.Mathlib.Nat.{add-zero, zero-add}
use lib.ListN.{length}
use Rattle.std.specs.List.{filter, range_with_len}
use native.Mathlib.Numerals.{add-one}
use native.Mathlib.Omega.{arith}
use Rattle.clauses.specs.Names.{new_name, name_count, new_names, distinct_names}
use Rattle.requirement.proofs.Loading.{sets-most, slots-fit}
use Rattle.requirement.specs.Tables.{first_slot, set_count}
use Rattle.store.specs.Limits.{union_room}
use Rattle.store.specs.Shape.{Sound}

-- what the code counts: the lists from k on that have a new name, with those before k
names_from : (w : List ℕ) (first k n : ℕ) → new_names w first k + length (filter (new_name w first) (range_with_len k n)) ≡ new_names w first (k + n)
unfolding new_names name_count
names_from w first k zero = rw (add-zero k) (add-zero (new_names w first k))
names_from w first k (suc n) =
    let e : k + suc n ≡ k + 1 + n = omega arith in
    rw e (go (new_name w first k) refl (names_from w first (k + 1) n))
  where
    next : new_names w first (k + 1) ≡ new_names w first k + name_count w first k
    next = rw (add-one k)

    go : (b : Bool) → new_name w first k ≡ b → new_names w first (k + 1) + length (filter (new_name w first) (range_with_len (k + 1) n)) ≡ new_names w first (k + 1 + n) → new_names w first k + length (filter (new_name w first) (range_with_len k (suc n))) ≡ new_names w first (k + 1 + n)
    go true q h = let m = rw q at next in rw q (omega arith)
    go false q h = let m = rw q at next in rw q (omega arith)

pub names_counted : (w : List ℕ) (first n : ℕ) → length (filter (new_name w first) (range_with_len 0 n)) ≡ new_names w first n
unfolding new_names
names_counted w first n = let h = rw (zero-add n) at (names_from w first 0 n) in omega (arith, h)

one_name : (w : List ℕ) (first i : ℕ) → name_count w first i ≤ 1
unfolding name_count
one_name w first i = go (new_name w first i)
  where
    go : (b : Bool) → cond b 1 0 ≤ 1
    go true = omega arith
    go false = omega arith

pub new-names-few : (w : List ℕ) (first n : ℕ) → new_names w first n ≤ n
unfolding new_names
new-names-few w first zero = omega arith
new-names-few w first (suc n) = omega (arith, one_name w first n, new-names-few w first n)

-- a union has at most eight members, so a requirement at most eight names
pub names-few : (w : List ℕ) (key : ℕ) → Sound w → distinct_names w key ≤ union_room
unfolding distinct_names
names-few w key h = omega (arith, new-names-few w (first_slot key) (set_count w key), sets-most w key h.ranges)

pub ruleset by_slots = (slots-fit)
