-- When a condition holds, for a given truth of the version sets.
use Rattle.std.specs.Prelude.{Bool, false, cond, ◌&&◌, ◌||◌, List, [], ◌∷◌, ℕ, zero, suc, ◌+◌, eqb}
use Rattle.store.specs.Area.{at}
use Rattle.store.specs.Codes.{leaf_kind, and_kind}
use Rattle.store.specs.Layout.{node_kinds, node_sets, node_lefts, node_rights}
use Rattle.store.specs.Shape.{every}

-- some element of a list passes a test
unfoldable pub some : {A : Type 0} → (A → Bool) → List A → Bool
some p [] = false
some p (x ∷ xs) = p x || some p xs

-- whether a node holds, by whether its children do
unfoldable pub node_truth : ℕ → Bool → Bool → Bool → Bool
node_truth kind v l r = cond (eqb kind 0) false (cond (eqb kind leaf_kind) v (cond (eqb kind and_kind) (l && r) (l || r)))

-- whether the tree under a link holds; the first number only bounds the depth
unfoldable pub truth : (ℕ → Bool) → ℕ → List ℕ → ℕ → Bool
unfolding node_truth
truth p zero w c = false
truth p (suc d) w zero = false
truth p (suc d) w (suc k) = node_truth (at node_kinds k w) (p (at node_sets k w)) (truth p d w (at node_lefts k w)) (truth p d w (at node_rights k w))

-- whether the tree of a node holds
abbrev pub tree_holds : (ℕ → Bool) → List ℕ → ℕ → Bool
tree_holds p w k = truth p (k + 1) w (k + 1)

-- "all of some term holds"
abbrev pub terms_hold : (ℕ → Bool) → List (List ℕ) → Bool
terms_hold p ts = some (every p) ts
