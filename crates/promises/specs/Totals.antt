-- THE TWO LIMITED SUMS: "The sum over registered clauses of their condition's literals is at most 1,024, and the sum of their distinct
-- names at most 1,024."
use Rattle.std.specs.Prelude.{cond, List, ℕ, zero, suc, ◌+◌, ◌-◌, eqb}
use Rattle.clauses.specs.Names.{distinct_names}
use Rattle.clauses.specs.Register.{literal_count_of}
use Rattle.store.specs.Area.{at}
use Rattle.store.specs.declared.area.Area.{Area}
use Rattle.store.specs.Codes.{no_condition}
use Rattle.store.specs.Layout.{clause_conditions, clause_count, clause_requirements}

-- the sum of what a function says of 0, 1, .., n numbers in all
unfoldable pub sum : (ℕ → ℕ) → ℕ → ℕ
sum f zero = 0
sum f (suc n) = sum f n + f n

-- "over registered clauses": what a function says of the word that each of them has in an area
abbrev pub over_clauses : (List ℕ → ℕ → ℕ) → Area → List ℕ → ℕ
over_clauses f a w = sum (λ k. f w (at a k w)) (at clause_count 0 w)

-- a stored condition as registering names it
unfoldable pub condition_named : ℕ → ℕ
condition_named word = cond (eqb word 0) no_condition (word - 1)

-- "their condition's literals": as many as registering counts
unfoldable pub stored_literals : List ℕ → ℕ → ℕ
stored_literals w word = literal_count_of w (condition_named word)

-- "the sum over registered clauses of their condition's literals"
abbrev pub literal_sum : List ℕ → ℕ
literal_sum w = over_clauses stored_literals clause_conditions w

-- "their distinct names": those of the clause's requirement
abbrev pub name_sum : List ℕ → ℕ
name_sum w = over_clauses distinct_names clause_requirements w
