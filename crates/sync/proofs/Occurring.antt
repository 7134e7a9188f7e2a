-- Searches for a touched variable: over the cells of a list, the lists of a requirement, the literals of a condition. Assumes nothing.
use Rattle.std.specs.List.{list_any, range_with_len}
use mathlib.Core.Bool.{◌||◌}
use mathlib.Core.List.{List, [], ◌∷◌, ◌++◌}
use mathlib.Core.Path.{◌≡◌, refl, sym}
use Prim.Native.Nat.{ℕ, zero, suc, ◌+◌}
use Rattle.meaning.specs.View.{list_at, literal_at}
use Rattle.requirement.specs.Tables.{cells_of}
use Rattle.rules.specs.Sync.{meets, mentions}
use Rattle.rules.specs.Walk.{flattened, member}
use Rattle.rules.proofs.Choice.{or_assoc}
use Rattle.store.specs.Area.{at}
use Rattle.store.specs.Layout.{literal_variables}
use Rattle.rules.specs.Numbers.{from}

-- one of some cells
pub cells_any : (W vs : List ℕ) → list_any (λ v. member v W) vs ≡ meets W vs
unfolding meets
cells_any W [] = refl
cells_any W (v ∷ vs) = rw (cells_any W vs)

meets-both : (W xs ys : List ℕ) → meets W (xs ++ ys) ≡ meets W xs || meets W ys
unfolding meets
meets-both W [] ys = refl
meets-both W (x ∷ xs) ys = rw (meets-both W xs ys) (or_assoc (member x W) (meets W xs) (meets W ys))

-- one of some lists
pub lists_any : (W w : List ℕ) (slot n : ℕ) → list_any (λ i. meets W (cells_of w i)) (range_with_len slot n) ≡ meets W (flattened (from (list_at w) slot n))
unfolding flattened from list_at meets
lists_any W w slot zero = refl
lists_any W w slot (suc n) = rw (lists_any W w (slot + 1) n) (sym (meets-both W (cells_of w slot) (flattened (from (list_at w) (slot + 1) n))))

-- one of some literals
pub literals_any : (W w : List ℕ) (start n : ℕ) → list_any (λ i. member (at literal_variables i w) W) (range_with_len start n) ≡ mentions W (from (literal_at w) start n)
unfolding mentions from literal_at
literals_any W w start zero = refl
literals_any W w start (suc n) = rw (literals_any W w (start + 1) n)
