-- THE SIX THINGS of demand 3: clauses, tables, activities, hot names, mode and present assignments; and a proposal with the "drop count
-- aside".
use Rattle.std.specs.Prelude.{List, ◌≡◌, ℕ, Result, Ok, Err}
use Rattle.meaning.specs.Standing.{of_clause}
use Rattle.meaning.specs.View.{lists_at, literals_at}
use Rattle.store.specs.Area.{at}
use Rattle.store.specs.Layout.{activities, clause_conditions, clause_count, clause_ids, clause_parents, clause_requirements, hot_names, mode}
use Rattle.proposal.specs.declared.Proposal.{Proposal}
use Rattle.proposal.specs.declared.Proposal.TheVariants.{Choose as Chosen, Nothing as NoneOpen, Dead as DeadAt}
use Rattle.store.specs.declared.refusals.Refusal.{Refusal}
use Rattle.trail.specs.Assignment.{assigned}

-- the same clauses, rank by rank; a clause's condition by its literals, its parent, requirement and id by their numbers
pub record SameClauses (w u : List ℕ) : Type 0 where
  pub counts : at clause_count 0 w ≡ at clause_count 0 u
  pub parents : (k : ℕ) → of_clause clause_parents w k ≡ of_clause clause_parents u k
  pub requirements_same : (k : ℕ) → of_clause clause_requirements w k ≡ of_clause clause_requirements u k
  pub conditions : (k : ℕ) → literals_at w (of_clause clause_conditions w k) ≡ literals_at u (of_clause clause_conditions u k)
  pub ids : (k : ℕ) → of_clause clause_ids w k ≡ of_clause clause_ids u k

-- all but the mode
pub record SameButMode (w u : List ℕ) : Type 0 where
  pub clauses_same : SameClauses w u
  pub tables_same : (key : ℕ) → lists_at w key ≡ lists_at u key
  pub activities_same : (name : ℕ) → at activities name w ≡ at activities name u
  pub hot_same : (name : ℕ) → at hot_names name w ≡ at hot_names name u
  pub assignments_same : (variable : ℕ) → assigned w variable ≡ assigned u variable

-- all six
pub record SameSix (w u : List ℕ) : Type 0 where
  pub but_mode : SameButMode w u
  pub mode_same : at mode 0 w ≡ at mode 0 u

-- "drop count aside"
abbrev pub undropped : Result Proposal Refusal → Result Proposal Refusal
undropped (Ok (Chosen candidate parent clause activity count dropped)) = Ok (Chosen candidate parent clause activity count 0)
undropped (Ok (NoneOpen dropped)) = Ok (NoneOpen 0)
undropped (Ok (DeadAt clause dropped)) = Ok (DeadAt clause 0)
undropped (Err e) = Err e
