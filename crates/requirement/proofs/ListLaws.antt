-- Lists written one after the other: what they are, what they leave, and that they stay in range. Assumes nothing.
use mathlib.Core.List.{List, [], ◌∷◌}
use mathlib.Core.Logic.{◌≢◌}
use mathlib.Core.Path.{◌≡◌, refl, ◌∙◌}
use Prim.Native.Nat.{ℕ, zero, suc, ◌+◌, ◌≤◌, ◌<◌}
use native.Mathlib.Omega.{arith}
use lib.Dec.{T}
use lib.ListN.{length, get_or, take}
use Rattle.requirement.specs.Load.{total, put_lists}
use Rattle.store.proofs.AreaLaws.{length_put, at-put-same, at-put_else, area_kept, at_kept}
use Rattle.store.proofs.Soundness.{ranged-put}
use Rattle.store.specs.declared.area.Area.{Area}
use Rattle.store.specs.Area.{area, at, put, apart}
use Rattle.store.specs.Layout.{list_starts, list_lengths, words}
use Rattle.store.specs.Limits.{cell_room, lists}
use Rattle.store.specs.Shape.{Ranged}

-- a length with what stands before it is within the total
pub total_prefix : (l : List ℕ) (j : ℕ) → j < length l → total (take j l) + get_or l j 0 ≤ total l
unfolding total
total_prefix [] j h = absurd (omega arith)
total_prefix (x ∷ xs) zero h = omega arith
total_prefix (x ∷ xs) (suc j) h = let k = total_prefix xs j (omega arith) in omega arith

-- one list, then the others
abbrev put_list : ℕ → ℕ → ℕ → List ℕ → List ℕ
put_list slot start n w = put list_lengths slot n (put list_starts slot start w)

pub length_lists : (slot start : ℕ) (ns w : List ℕ) → length (put_lists slot start ns w) ≡ length w
unfolding put_lists
length_lists slot start [] w = refl
length_lists slot start (n ∷ ns) w =
    length_lists (slot + 1) (start + n) ns (put_list slot start n w)
    ∙ length_put list_lengths slot n (put list_starts slot start w)
    ∙ length_put list_starts slot start w

-- every other area is as it was
pub area-lists_kept : (a : Area) (slot start : ℕ) (ns w : List ℕ) → T (apart a list_starts) → T (apart a list_lengths) → slot + length ns ≤ lists → area a (put_lists slot start ns w) ≡ area a w
unfolding put_lists
area-lists_kept a slot start [] w p q h = refl
area-lists_kept a slot start (n ∷ ns) w p q h =
    area-lists_kept a (slot + 1) (start + n) ns (put_list slot start n w) p q (omega arith)
    ∙ area_kept a list_lengths slot n (put list_starts slot start w) q (omega arith)
    ∙ area_kept a list_starts slot start w p (omega arith)

pub at-lists_kept : (a : Area) (slot start : ℕ) (ns w : List ℕ) (i : ℕ) → T (apart a list_starts) → T (apart a list_lengths) → slot + length ns ≤ lists → at a i (put_lists slot start ns w) ≡ at a i w
unfolding at
at-lists_kept a slot start ns w i p q h = rw (area-lists_kept a slot start ns w p q h)

-- a list that is none of them keeps its start and its length
abbrev pub NoneOf : ℕ → ℕ → ℕ → Type 0
NoneOf slot n i = (j : ℕ) → j < n → i ≢ slot + j

none_next : (slot n i : ℕ) → NoneOf slot (suc n) i → NoneOf (slot + 1) n i
none_next slot n i f j h e = f (suc j) (omega arith) (omega arith)

none_first : (slot n i : ℕ) → NoneOf slot (suc n) i → i ≢ slot
none_first slot n i f e = f 0 (omega arith) (omega arith)

pub start_else : (slot start : ℕ) (ns w : List ℕ) (i : ℕ) → slot + length ns ≤ lists → NoneOf slot (length ns) i → at list_starts i (put_lists slot start ns w) ≡ at list_starts i w
unfolding put_lists
start_else slot start [] w i h f = refl
start_else slot start (n ∷ ns) w i h f =
    start_else (slot + 1) (start + n) ns (put_list slot start n w) i (omega arith) (none_next slot (length ns) i f)
    ∙ at_kept list_starts list_lengths slot i n (put list_starts slot start w) tt (omega arith)
    ∙ at-put_else list_starts slot i start w (omega arith) (none_first slot (length ns) i f)

pub length_else : (slot start : ℕ) (ns w : List ℕ) (i : ℕ) → slot + length ns ≤ lists → NoneOf slot (length ns) i → at list_lengths i (put_lists slot start ns w) ≡ at list_lengths i w
unfolding put_lists
length_else slot start [] w i h f = refl
length_else slot start (n ∷ ns) w i h f =
    length_else (slot + 1) (start + n) ns (put_list slot start n w) i (omega arith) (none_next slot (length ns) i f)
    ∙ at-put_else list_lengths slot i n (put list_starts slot start w) (omega arith) (none_first slot (length ns) i f)
    ∙ at_kept list_lengths list_starts slot i start w tt (omega arith)

-- and those that are written have theirs
before_next : (slot n : ℕ) → NoneOf (slot + 1) n slot
before_next slot n j h e = absurd (omega arith)

pub start-at : (slot start : ℕ) (ns w : List ℕ) (j : ℕ) → words ≤ length w → slot + length ns ≤ lists → j < length ns → at list_starts (slot + j) (put_lists slot start ns w) ≡ start + total (take j ns)
unfolding put_lists total
start-at slot start [] w j l h k = absurd (omega arith)
start-at slot start (n ∷ ns) w zero l h k =
    let e : slot + 0 ≡ slot = omega arith in
    let z : start + 0 ≡ start = omega arith in
    rw (e, z)
    (start_else (slot + 1) (start + n) ns (put_list slot start n w) slot (omega arith) (before_next slot (length ns))
    ∙ at_kept list_starts list_lengths slot slot n (put list_starts slot start w) tt (omega arith)
    ∙ at-put-same list_starts slot start w (omega arith) (omega arith))
start-at slot start (n ∷ ns) w (suc j) l h k =
    let e : slot + suc j ≡ slot + 1 + j = omega arith in
    let z : start + (n + total (take j ns)) ≡ start + n + total (take j ns) = omega arith in
    let m : words ≤ length (put_list slot start n w) = rw (length_put list_lengths slot n (put list_starts slot start w), length_put list_starts slot start w) l in
    rw (e, z) (start-at (slot + 1) (start + n) ns (put_list slot start n w) j m (omega arith) (omega arith))

pub length_at : (slot start : ℕ) (ns w : List ℕ) (j : ℕ) → words ≤ length w → slot + length ns ≤ lists → j < length ns → at list_lengths (slot + j) (put_lists slot start ns w) ≡ get_or ns j 0
unfolding put_lists
length_at slot start [] w j l h k = absurd (omega arith)
length_at slot start (n ∷ ns) w zero l h k =
    let e : slot + 0 ≡ slot = omega arith in
    let m : words ≤ length (put list_starts slot start w) = rw (length_put list_starts slot start w) l in
    rw e
    (length_else (slot + 1) (start + n) ns (put_list slot start n w) slot (omega arith) (before_next slot (length ns))
    ∙ at-put-same list_lengths slot n (put list_starts slot start w) (omega arith) (omega arith))
length_at slot start (n ∷ ns) w (suc j) l h k =
    let e : slot + suc j ≡ slot + 1 + j = omega arith in
    let m : words ≤ length (put_list slot start n w) = rw (length_put list_lengths slot n (put list_starts slot start w), length_put list_starts slot start w) l in
    rw e (length_at (slot + 1) (start + n) ns (put_list slot start n w) j m (omega arith) (omega arith))

-- lists within the cells leave every area in range
pub ranged-lists : (slot start : ℕ) (ns w : List ℕ) → slot + length ns ≤ lists → start + total ns ≤ cell_room → Ranged w → Ranged (put_lists slot start ns w)
unfolding put_lists total
ranged-lists slot start [] w h k r = r
ranged-lists slot start (n ∷ ns) w h k r =
    ranged-lists (slot + 1) (start + n) ns (put_list slot start n w) (omega arith) (omega arith)
    (ranged-put list_lengths cell_room slot n (put list_starts slot start w) tt (omega arith) (omega arith)
    (ranged-put list_starts cell_room slot start w tt (omega arith) (omega arith) r))
