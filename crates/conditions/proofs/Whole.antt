-- Term by term and as a whole: what the loops find and write after all terms is what the definition says of the list of terms. Assumes nothing.
use mathlib.Core.Bool.{Bool, true, false, ◌&&◌}
use mathlib.Core.List.{List, [], ◌∷◌, ◌++◌, append_assoc, append-nil}
use mathlib.Core.Path.{◌≡◌, refl, sym, ap, ◌∙◌}
use Prim.Native.Nat.{ℕ, zero, suc, ◌+◌, ◌≤◌, ◌<◌}
use native.Mathlib.Nat.{zero-add, add-zero, le_of_eq}
use native.Mathlib.Omega.{arith}
use borrow.Author.Tests.{le-ltb}
use lib.Dec.{leb}
use lib.ListN.{length, get_or, take, set, length-append}
use lib.Seq.{take-suc, length-take-le, sets, take-length}
use Rattle.store.proofs.LentLaws.{length_lengths, sets_over}
use Rattle.store.specs.Lent.{lengths_of, joined, over}
use Rattle.store.specs.Limits.{most_terms, most_sets}
use Rattle.conditions.specs.Rewrite.{too_much}
use Rattle.conditions.proofs.Writing.{sets_append}
use Rattle.conditions.specs.Dnf.{linked, term_of}
use Rattle.conditions.specs.Steps.{short_at, cells_to, lengths_left, cells_left}
use Rattle.rules.specs.Numbers.{all_from}
use Rattle.store.specs.Shape.{every, up_to}

lengths_snoc : (ts : List (List ℕ)) (t : List ℕ) → lengths_of (ts ++ (t ∷ [])) ≡ lengths_of ts ++ (length t ∷ [])
unfolding lengths_of
lengths_snoc [] t = refl
lengths_snoc (x ∷ ts) t = ap (λ l. length x ∷ l) (lengths_snoc ts t)

joined_snoc : (ts : List (List ℕ)) (t : List ℕ) → joined (ts ++ (t ∷ [])) ≡ joined ts ++ t
unfolding joined
joined_snoc [] t = append-nil t
joined_snoc (x ∷ ts) t = ap (λ l. x ++ l) (joined_snoc ts t) ∙ sym (append_assoc x (joined ts) t)

-- a test of every term by its index is a test along the list
short-from : (ts : List (List ℕ)) (q : ℕ → Bool) (i : ℕ) → ((j : ℕ) → j < length ts → q (i + j) ≡ leb (length (get_or ts j [])) most_sets) → all_from q i (length ts) ≡ every (up_to most_sets) (lengths_of ts)
unfolding all_from every lengths_of
short-from [] q i f = refl
short-from (t ∷ ts) q i f =
    let a : q i ≡ leb (length t) most_sets = rw add-zero at (f 0 (omega arith)) in
    rw a
    (ap (λ b. leb (length t) most_sets && b)
    (short-from ts q (i + 1)
    (λ j h.
    let e : i + 1 + j ≡ i + suc j = omega arith in
    rw e (f (suc j) (omega arith)))))

module _ (w : List ℕ) (c : ℕ) where
  -- the first n terms, one more
  first_more : (n : ℕ) → n < length (linked w c) → take (suc n) (linked w c) ≡ take n (linked w c) ++ (term_of w c n ∷ [])
  unfolding term_of
  first_more n h = take-suc (linked w c) n [] h

  cells_of : (n : ℕ) → n ≤ length (linked w c) → cells_to w c n ≡ length (joined (take n (linked w c)))
  unfolding cells_to joined
  cells_of zero h = refl
  cells_of (suc n) h =
      rw (first_more n (omega arith), joined_snoc (take n (linked w c)) (term_of w c n), length-append (joined (take n (linked w c))) (term_of w c n))
      (ap (λ m. m + length (term_of w c n)) (cells_of n (omega arith)))

  lengths-first : (l : List ℕ) (n : ℕ) → n ≤ length (linked w c) → lengths_left w c l n ≡ sets l 0 (lengths_of (take n (linked w c)))
  unfolding lengths_left lengths_of
  lengths-first l zero h = refl
  lengths-first l (suc n) h =
      let e : 0 + length (lengths_of (take n (linked w c))) ≡ n = omega (arith, length_lengths (take n (linked w c)), length-take-le n (linked w c) (omega arith)) in
      rw (first_more n (omega arith), lengths_snoc (take n (linked w c)) (term_of w c n), sets_append l 0 (lengths_of (take n (linked w c))) (length (term_of w c n) ∷ []), e)
      (ap (λ o. set o n (length (term_of w c n))) (lengths-first l n (omega arith)))

  cells-first : (l : List ℕ) (n : ℕ) → n ≤ length (linked w c) → cells_left w c l n ≡ sets l 0 (joined (take n (linked w c)))
  unfolding cells_left joined
  cells-first l zero h = refl
  cells-first l (suc n) h =
      let e : 0 + length (joined (take n (linked w c))) ≡ cells_to w c n = omega (arith, cells_of n (omega arith)) in
      rw (first_more n (omega arith), joined_snoc (take n (linked w c)) (term_of w c n), sets_append l 0 (joined (take n (linked w c))) (term_of w c n), e)
      (ap (λ o. sets o (cells_to w c n) (term_of w c n)) (cells-first l n (omega arith)))

  module _ (n : ℕ) (all : n ≡ length (linked w c)) where
    all_first : take n (linked w c) ≡ linked w c
    all_first = rw (all, take-length (linked w c))

    pub short_whole : all_from (short_at w c) 0 n ≡ every (up_to most_sets) (lengths_of (linked w c))
    unfolding short_at term_of
    short_whole = rw all (short-from (linked w c) (short_at w c) 0 (λ j h. rw zero-add))

    pub cells_whole : cells_to w c n ≡ length (joined (linked w c))
    cells_whole = cells_of n (le_of_eq all) ∙ rw all_first

    -- THE LENT LISTS: with all terms written
    pub lengths_written : (l : List ℕ) → n ≤ length l → lengths_left w c l n ≡ over (lengths_of (linked w c)) l
    lengths_written l h = lengths-first l n (le_of_eq all) ∙ rw all_first (sets_over (lengths_of (linked w c)) l (omega (arith, length_lengths (linked w c))))

    pub terms_written : (l : List ℕ) → cells_to w c n ≤ length l → cells_left w c l n ≡ over (joined (linked w c)) l
    terms_written l h = cells-first l n (le_of_eq all) ∙ rw all_first (sets_over (joined (linked w c)) l (omega (arith, cells_whole)))

    -- all terms fit
    pub fits : (rooms room m : ℕ) → n ≤ most_terms → all_from (short_at w c) 0 n ≡ true → m ≡ cells_to w c n → n ≤ rooms → m ≤ room → too_much (linked w c) rooms room ≡ false
    unfolding too_much
    fits rooms room m few short sum long roomy =
        let total = sum ∙ cells_whole in
        rw (← all, ← total, ← short_whole, short, le-ltb most_terms n few, le-ltb rooms n long, le-ltb room m roomy)

pub ruleset whole = (short_whole, cells_whole, fits, lengths_written, terms_written)
