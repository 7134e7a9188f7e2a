-- Term by term: what the loops of rewriting have found and written after the first n terms.
use Rattle.std.specs.Prelude.{Option, Some, None, Bool, true, false, List, ◌≡◌, ℕ, zero, suc, ◌+◌, ◌*◌, ◌≤◌, leb, length, set}
use Rattle.std.proofs.lemmas.List.Edits.{sets}
use Rattle.store.specs.Limits.{most_terms, most_sets}
use Rattle.rules.specs.Numbers.{all_from}
use Rattle.conditions.specs.Dnf.{term_of}
use Rattle.conditions.specs.Ways.{AllAsked}

-- a term is not too long
unfoldable pub short_at : List ℕ → ℕ → ℕ → Bool
short_at w c i = leb (length (term_of w c i)) most_sets

-- how many version sets the first n terms have
unfoldable pub cells_to : List ℕ → ℕ → ℕ → ℕ
cells_to w c zero = 0
cells_to w c (suc n) = cells_to w c n + length (term_of w c n)

-- what measuring n terms found: a term that is too long, or how many version sets they have together
abbrev pub Measured : List ℕ → ℕ → ℕ → Option ℕ → Type 0
Measured w c n None = all_from (short_at w c) 0 n ≡ false
Measured w c n (Some m) = (all_from (short_at w c) 0 n ≡ true) × (m ≡ cells_to w c n) × (m ≤ most_terms * most_sets)

-- n terms are few and short, and two lent lists have room for them
pub record Fitting (w : List ℕ) (c n rooms room : ℕ) : Type 0 where
  pub asked : AllAsked w c n
  pub long : n ≤ rooms
  pub roomy : cells_to w c n ≤ room
  pub short : all_from (short_at w c) 0 n ≡ true

-- the list of lengths with those of the first n terms
unfoldable pub lengths_left : List ℕ → ℕ → List ℕ → ℕ → List ℕ
lengths_left w c l zero = l
lengths_left w c l (suc n) = set (lengths_left w c l n) n (length (term_of w c n))

-- the list of cells with the first n terms one after the other
unfoldable pub cells_left : List ℕ → ℕ → List ℕ → ℕ → List ℕ
cells_left w c l zero = l
cells_left w c l (suc n) = sets (cells_left w c l n) (cells_to w c n) (term_of w c n)
