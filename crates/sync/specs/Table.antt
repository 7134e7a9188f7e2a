-- A table of variables: place v is true where v is entered.
use Rattle.std.specs.Prelude.{Bool, false, cond, List, [], ◌∷◌, ℕ, zero, suc, get_or}
use Rattle.store.specs.Limits.{variables}

-- the variables below n that a table has
unfoldable pub found_in : List Bool → ℕ → List ℕ
found_in t zero = []
found_in t (suc n) = cond (get_or t n false) (n ∷ found_in t n) (found_in t n)

-- all that it has
abbrev pub in_table : List Bool → List ℕ
in_table t = found_in t variables
