-- The lists as they are looked up: what makes them the lent ones, and what keeps them. Assumes nothing.
use mathlib.Core.Bool.{Bool, true, false, cond}
use mathlib.Core.List.{List, [], ◌∷◌}
use mathlib.Core.Path.{◌≡◌, refl, sym, ◌∙◌}
use Prim.Native.Nat.{ℕ, suc, ◌+◌, ◌-◌, ◌≤◌, ◌<◌}
use native.Mathlib.Nat.{add-zero}
use native.Mathlib.Omega.{arith}
use borrow.Author.Tests.{ltb-true}
use lib.Dec.{ltb, eqb}
use lib.ListN.{length, get_or, take, drop, length-drop}
use lib.Seq.{get_or-drop}
use Rattle.requirement.proofs.ListParts.{same-run, run_is}
use Rattle.requirement.specs.Load.{total, cut}
use Rattle.requirement.specs.Tables.{set_count, list_count, set_of, cells_of}
use Rattle.rules.proofs.Froms.{from_agree}
use Rattle.rules.specs.Numbers.{from}
use Rattle.store.proofs.AreaLaws.{length_area}
use Rattle.store.specs.Area.{area, at}
use Rattle.store.specs.Layout.{union_sets, tables_loaded, list_starts, list_lengths, candidates, words}
use Rattle.store.specs.Limits.{version_sets, cell_room, last_version_set}
use Rattle.store.specs.Shape.{Sound}

-- the cells of a list, place by place
cells_are : (s : List ℕ) (slot n place : ℕ) (cs : List ℕ) → words ≤ length s → n ≤ length cs → place + n ≤ cell_room → at list_starts slot s ≡ place → at list_lengths slot s ≡ n → ((i : ℕ) → i < n → at candidates (place + i) s ≡ get_or cs i 0) → cells_of s slot ≡ take n cs
unfolding cells_of at
cells_are s slot n place cs long k room e f h = rw (e, f) (run_is n place (area candidates s) cs k (rw (length_area candidates s (omega arith)) room) h)

pub cells_kept : (w s : List ℕ) (slot : ℕ) → words ≤ length w → length s ≡ length w → at list_starts slot s ≡ at list_starts slot w → at list_lengths slot s ≡ at list_lengths slot w → ((i : ℕ) → i < at list_lengths slot w → at candidates (at list_starts slot w + i) s ≡ at candidates (at list_starts slot w + i) w) → cells_of s slot ≡ cells_of w slot
unfolding cells_of at
cells_kept w s slot long size e f h =
    rw (e, f)
    (same-run _ _ (area candidates s) (area candidates w) (length_area candidates s (omega arith) ∙ sym (length_area candidates w (omega arith))) h)

pub lists_kept : (w s : List ℕ) (slot n : ℕ) → ((j : ℕ) → j < n → cells_of s (slot + j) ≡ cells_of w (slot + j)) → from (cells_of s) slot n ≡ from (cells_of w) slot n
lists_kept w s slot n f =
    from_agree (cells_of s) (cells_of w) slot n
    (λ k a b.
    let e : slot + (k - slot) ≡ k = omega arith in
    rw e at (f (k - slot) (omega arith)))

-- lists that lie one after the other are the cut of their cells
pub lists_are : (s : List ℕ) (slot place : ℕ) (ls cs : List ℕ) → words ≤ length s → total ls ≡ length cs → place + length cs ≤ cell_room → ((j : ℕ) → j < length ls → at list_starts (slot + j) s ≡ place + total (take j ls)) → ((j : ℕ) → j < length ls → at list_lengths (slot + j) s ≡ get_or ls j 0) → ((i : ℕ) → i < length cs → at candidates (place + i) s ≡ get_or cs i 0) → from (cells_of s) slot (length ls) ≡ cut ls cs
unfolding from cut total
lists_are s slot place [] cs long sum room f g h = refl
lists_are s slot place (n ∷ ns) cs long sum room f g h =
    let shorter = length-drop n cs in
    let first = cells_are s slot n place cs long (omega arith) (omega arith) (rw (add-zero slot, add-zero place) at (f 0 (omega arith))) (rw (add-zero slot) at (g 0 (omega arith))) (λ i k. h i (omega arith)) in
    let rest =
    lists_are s (slot + 1) (place + n) ns (drop n cs) long (omega arith) (omega arith)
    (λ j k.
    let e : slot + 1 + j ≡ slot + suc j = omega arith in
    let z : place + n + total (take j ns) ≡ place + (n + total (take j ns)) = omega arith in
    rw (e, z) (f (suc j) (omega arith)))
    (λ j k.
    let e : slot + 1 + j ≡ slot + suc j = omega arith in
    rw e (g (suc j) (omega arith)))
    (λ i k.
    let e : place + n + i ≡ place + (n + i) = omega arith in
    rw (e, get_or-drop n cs i 0) (h (n + i) (omega arith))) in
    rw (first, rest)

-- a list of a requirement is of one of its version sets
pub listed-sets : (w : List ℕ) (key j : ℕ) → j < list_count w key → j < set_count w key
unfolding list_count
listed-sets w key j h = go (eqb (at tables_loaded key w) 0) h
  where
    go : (b : Bool) → j < cond b 0 (set_count w key) → j < set_count w key
    go true h = absurd (omega arith)
    go false h = h

-- the version set of a list is one, on a store of sound shape
pub set_below : (w : List ℕ) (slot x : ℕ) → Sound w → x ≡ set_of w slot → x < version_sets
unfolding set_of
set_below w slot x h e = rw e (go (ltb slot version_sets) refl)
  where
    go : (b : Bool) → ltb slot version_sets ≡ b → cond b slot (at union_sets (slot - version_sets) w) < version_sets
    go true q = ltb-true slot version_sets q
    go false q = let m = h.ranges union_sets last_version_set tt (slot - version_sets) in omega arith
