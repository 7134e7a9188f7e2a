-- The terms of a condition: what its tree is rewritten to.
use Rattle.std.specs.Prelude.{cond, List, [], ◌∷◌, ◌++◌, ℕ, zero, suc, ◌+◌, eqb, get_or}
use Rattle.store.specs.Area.{at}
use Rattle.store.specs.Codes.{leaf_kind, and_kind}
use Rattle.store.specs.Layout.{node_kinds, node_sets, node_lefts, node_rights}

-- a given term followed by each of some terms
unfoldable pub prefixed : List ℕ → List (List ℕ) → List (List ℕ)
prefixed x [] = []
prefixed x (y ∷ r) = (x ++ y) ∷ prefixed x r

-- "for each left term in order and each right term in order, left followed by right, repeats kept"
unfoldable pub cross : List (List ℕ) → List (List ℕ) → List (List ℕ)
unfolding prefixed
cross [] r = []
cross (x ∷ l) r = prefixed x r ++ cross l r

-- "A leaf gives one term of one version set. Or joins the left terms and then the right." And gives the product; a node that is not
-- loaded has no terms
unfoldable pub node_terms : ℕ → ℕ → List (List ℕ) → List (List ℕ) → List (List ℕ)
unfolding cross
node_terms kind v l r = cond (eqb kind 0) [] (cond (eqb kind leaf_kind) ((v ∷ []) ∷ []) (cond (eqb kind and_kind) (cross l r) (l ++ r)))

-- the terms under a link, which is 0 for none and else one more than a node; the first number only bounds the depth
unfoldable pub dnf : ℕ → List ℕ → ℕ → List (List ℕ)
unfolding node_terms
dnf zero w c = []
dnf (suc d) w zero = []
dnf (suc d) w (suc k) = node_terms (at node_kinds k w) (at node_sets k w) (dnf d w (at node_lefts k w)) (dnf d w (at node_rights k w))

-- "the node number falls": a link's own number bounds the depth below it
unfoldable pub linked : List ℕ → ℕ → List (List ℕ)
unfolding dnf
linked w c = dnf c w c

-- the terms of a node
abbrev pub terms : List ℕ → ℕ → List (List ℕ)
terms w k = linked w (k + 1)

-- term i under a link
unfoldable pub term_of : List ℕ → ℕ → ℕ → List ℕ
unfolding linked
term_of w c i = get_or (linked w c) i []
