-- The clause records, kept in position order: clause k is the k-th of the walk.
use Rattle.std.specs.Prelude.{cond, List, ℕ, ◌-◌, ltb}
use Rattle.rules.specs.Store.{rank}
use Rattle.store.specs.Area.{at}
use Rattle.store.specs.Layout.{clause_count, clause_parents, clause_requirements, clause_conditions, clause_ids}
use Rattle.store.specs.Limits.{version_sets}
use Rattle.clauses.specs.declared.Clause.{Clause}
use Rattle.requirement.specs.declared.Requirement.{Requirement}
use Rattle.requirement.specs.declared.Requirement.TheVariants.{Single, Union}

-- the requirement of a stored key: the single's version set, or 256 more than the union
abbrev pub of_key : ℕ → Requirement
of_key key = cond (ltb key version_sets) (Single key) (Union (key - version_sets))

-- "The clause record keeps its requirement, single or union, inside it"
unfoldable pub clause_at : List ℕ → ℕ → Clause
clause_at w k =
    record {
      parent = at clause_parents k w;
      requirement = of_key (at clause_requirements k w);
      condition = at clause_conditions k w;
      id = at clause_ids k w;
    }

-- the parent of clause k
abbrev pub parent_at : List ℕ → ℕ → ℕ
parent_at w k = at clause_parents k w

-- the rank of a new clause: behind the last clause of its parent, or behind all
abbrev pub rank_of : List ℕ → ℕ → ℕ
rank_of w parent = rank (parent_at w) parent (at clause_count 0 w)
