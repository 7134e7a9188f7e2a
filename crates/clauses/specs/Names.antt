-- "The sum of their distinct names": the names of a requirement, counted list by list.
use Rattle.std.specs.Prelude.{Bool, not, cond, List, ℕ, zero, suc, ◌+◌, eqb}
use Rattle.requirement.specs.Tables.{first_slot, set_count, set_of, name_of}
use Rattle.rules.specs.Numbers.{all_from}

-- list j of those that begin at `first` has another name than list i
unfoldable pub other_name : List ℕ → ℕ → ℕ → ℕ → Bool
other_name w first i j = not (eqb (name_of w (set_of w (first + j))) (name_of w (set_of w (first + i))))

-- no list before list i has its name
unfoldable pub new_name : List ℕ → ℕ → ℕ → Bool
new_name w first i = all_from (other_name w first i) 0 i

-- how many names list i adds: one, or none
unfoldable pub name_count : List ℕ → ℕ → ℕ → ℕ
name_count w first i = cond (new_name w first i) 1 0

-- how many of the first n lists have a name that no list before them has
unfoldable pub new_names : List ℕ → ℕ → ℕ → ℕ
new_names w first zero = 0
new_names w first (suc n) = new_names w first n + name_count w first n

-- how many distinct names the version sets of a requirement have
unfoldable pub distinct_names : List ℕ → ℕ → ℕ
distinct_names w key = new_names w (first_slot key) (set_count w key)
