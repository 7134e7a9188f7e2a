-- What the words say of the tables: the candidate lists of a requirement, the literals of a condition.
use Rattle.std.specs.Prelude.{cond, List, [], ℕ, ◌-◌, eqb}
use Rattle.requirement.specs.Tables.{first_slot, list_count, set_of, name_of, cells_of}
use Rattle.rules.specs.Numbers.{from}
use Rattle.rules.specs.Walk.{Literal, CandidateList}
use Rattle.store.specs.Area.{at}
use Rattle.store.specs.Layout.{disjunction_starts, disjunction_sizes, literal_variables, literal_signs}

-- a list of a requirement: its candidates, and the name of its version set
unfoldable pub list_at : List ℕ → ℕ → CandidateList
list_at w slot = record { name = name_of w (set_of w slot); candidates = cells_of w slot }

-- the lists of a requirement
unfoldable pub lists_at : List ℕ → ℕ → List CandidateList
lists_at w key = from (list_at w) (first_slot key) (list_count w key)

-- "A literal is a variable and a sign"
unfoldable pub literal_at : List ℕ → ℕ → Literal
literal_at w i = record { variable = at literal_variables i w; negated = eqb (at literal_signs i w) 1 }

-- the literals of a condition: 0 none, else those of the disjunction one less; one that is not loaded has none
unfoldable pub literals_at : List ℕ → ℕ → List Literal
literals_at w condition =
    cond (eqb condition 0) []
    (from (literal_at w) (at disjunction_starts (condition - 1) w) (at disjunction_sizes (condition - 1) w - 1))
