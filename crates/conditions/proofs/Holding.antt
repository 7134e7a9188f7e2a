-- "For every truth of the version sets, the tree holds exactly when all of some term holds." Assumes nothing.
use mathlib.Core.Bool.{Bool, true, false, cond, ◌&&◌, ◌||◌}
use mathlib.Core.List.{List, [], ◌∷◌, ◌++◌}
use mathlib.Core.Path.{◌≡◌, refl, sym, ◌∙◌}
use Prim.Native.Nat.{ℕ, zero, suc, ◌+◌}
use lib.Dec.{eqb}
use Rattle.conditions.specs.Dnf.{prefixed, cross, node_terms, dnf, linked, terms}
use Rattle.conditions.specs.Truth.{some, node_truth, truth, tree_holds, terms_hold}
use Rattle.rules.proofs.Choice.{or_assoc, and_none}
use Rattle.store.specs.Area.{at}
use Rattle.store.specs.Codes.{leaf_kind, and_kind}
use Rattle.store.specs.Layout.{node_kinds, node_sets, node_lefts, node_rights}
use Rattle.store.specs.Shape.{every}

-- all of two lists, and some of two lists
every_append : (p : ℕ → Bool) (l r : List ℕ) → every p (l ++ r) ≡ every p l && every p r
unfolding every
every_append p [] r = refl
every_append p (x ∷ l) r = rw (every_append p l r) (and_assoc (p x) (every p l) (every p r))
  where
    and_assoc : (a b c : Bool) → a && (b && c) ≡ (a && b) && c
    and_assoc true b c = refl
    and_assoc false b c = refl

some_append : (p : ℕ → Bool) (l r : List (List ℕ)) → terms_hold p (l ++ r) ≡ terms_hold p l || terms_hold p r
unfolding some
some_append p [] r = refl
some_append p (x ∷ l) r = rw (some_append p l r) (or_assoc (every p x) (terms_hold p l) (terms_hold p r))

-- a term followed by some terms
some-prefixed : (p : ℕ → Bool) (x : List ℕ) (r : List (List ℕ)) → terms_hold p (prefixed x r) ≡ every p x && terms_hold p r
unfolding some prefixed
some-prefixed p x [] = sym (and_none (every p x))
some-prefixed p x (y ∷ r) = rw (some-prefixed p x r, every_append p x y) (go (every p x) (every p y) (terms_hold p r))
  where
    go : (a b c : Bool) → (a && b) || (a && c) ≡ a && (b || c)
    go true b c = refl
    go false b c = refl

some-cross : (p : ℕ → Bool) (l r : List (List ℕ)) → terms_hold p (cross l r) ≡ terms_hold p l && terms_hold p r
unfolding some cross
some-cross p [] r = refl
some-cross p (x ∷ l) r = some_append p (prefixed x r) (cross l r) ∙ rw (some-prefixed p x r, some-cross p l r) (go (every p x) (terms_hold p l) (terms_hold p r))
  where
    go : (a b c : Bool) → (a && c) || (b && c) ≡ (a || b) && c
    go true true true = refl
    go true true false = refl
    go true false true = refl
    go true false false = refl
    go false b c = refl

node_holds : (p : ℕ → Bool) (kind v : ℕ) (l r : List (List ℕ)) → node_truth kind (p v) (terms_hold p l) (terms_hold p r) ≡ terms_hold p (node_terms kind v l r)
unfolding node_truth node_terms some every
node_holds p kind v l r = go (eqb kind 0) (eqb kind leaf_kind) (eqb kind and_kind)
  where
    one : (a : Bool) → a ≡ (a && true) || false
    one true = refl
    one false = refl

    go : (a b c : Bool) → cond a false (cond b (p v) (cond c (terms_hold p l && terms_hold p r) (terms_hold p l || terms_hold p r))) ≡ terms_hold p (cond a [] (cond b ((v ∷ []) ∷ []) (cond c (cross l r) (l ++ r))))
    go true b c = refl
    go false true c = one (p v)
    go false false true = sym (some-cross p l r)
    go false false false = sym (some_append p l r)

truth-is : (p : ℕ → Bool) (w : List ℕ) (d c : ℕ) → truth p d w c ≡ terms_hold p (dnf d w c)
unfolding truth dnf some
truth-is p w zero c = refl
truth-is p w (suc d) zero = refl
truth-is p w (suc d) (suc k) =
    rw (truth-is p w d (at node_lefts k w), truth-is p w d (at node_rights k w))
    (node_holds p (at node_kinds k w) (at node_sets k w) (dnf d w (at node_lefts k w)) (dnf d w (at node_rights k w)))

pub dnf-holds : (p : ℕ → Bool) (w : List ℕ) (k : ℕ) → tree_holds p w k ≡ terms_hold p (terms w k)
unfolding linked
dnf-holds p w k = truth-is p w (k + 1) (k + 1)
