-- What a node says of the terms under its link.
use Rattle.std.specs.Prelude.{cond, Option, Some, None, List, [], ◌∷◌, ◌++◌, ◌≡◌, ℕ, ◌-◌, ◌<◌, eqb}
use Rattle.store.specs.Area.{at}
use Rattle.store.specs.Codes.{leaf_kind, and_kind}
use Rattle.store.specs.Layout.{node_kinds, node_sets, node_lefts, node_rights}
use Rattle.conditions.specs.Dnf.{cross, linked}
use Rattle.conditions.specs.declared.tree.Node.{Node}
use Rattle.conditions.specs.declared.tree.Node.TheVariants.{Leaf, And, Or}

-- node k of each kind: a version set, or its two links; none where it is not loaded
unfoldable pub node_of : List ℕ → ℕ → ℕ → Option Node
node_of w k kind =
    cond (eqb kind 0) None
    (cond (eqb kind leaf_kind) (Some (Leaf (at node_sets k w)))
    (cond (eqb kind and_kind) (Some (And (at node_lefts k w) (at node_rights k w))) (Some (Or (at node_lefts k w) (at node_rights k w)))))

-- the node under a link, which is 0 for none and else one more than a node
unfoldable pub node_at : List ℕ → ℕ → Option Node
unfolding node_of
node_at w c = cond (eqb c 0) None (node_of w (c - 1) (at node_kinds (c - 1) w))

-- a node was read: its links are smaller, and the terms are made of those under them
abbrev pub Read : List ℕ → ℕ → Option Node → Type 0
Read w c None = linked w c ≡ []
Read w c (Some (Leaf v)) = linked w c ≡ (v ∷ []) ∷ []
Read w c (Some (And l r)) = (l < c) × (r < c) × (linked w c ≡ cross (linked w l) (linked w r))
Read w c (Some (Or l r)) = (l < c) × (r < c) × (linked w c ≡ linked w l ++ linked w r)
