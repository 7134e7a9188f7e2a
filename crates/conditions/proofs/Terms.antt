-- The terms under a link by those of the links below it, and their counts. Assumes nothing.
use mathlib.Core.List.{List, [], ◌∷◌, ◌++◌}
use mathlib.Core.Logic.{⊎_elim}
use mathlib.Core.Path.{◌≡◌, refl, ap, ◌∙◌}
use Prim.Native.Nat.{ℕ, zero, suc, ◌+◌, ◌-◌, ◌*◌, ◌≤◌, ◌<◌, min}
use native.Mathlib.Nat.{zero-mul, suc-mul}
use native.Mathlib.Omega.{arith}
use lib.ListN.{length, get_or, length-append, get_or-append}
use lib.Seq.{get_or-append-add}
use Rattle.store.specs.Limits.{most_terms}
use Rattle.conditions.specs.Dnf.{prefixed, cross, node_terms, dnf, linked}
use Rattle.rules.proofs.Choice.{lt_or}
use Rattle.store.specs.Area.{at}
use Rattle.store.specs.Layout.{node_kinds, node_sets, node_lefts, node_rights}
use Rattle.store.specs.Shape.{Sound}

length_prefixed : (x : List ℕ) (r : List (List ℕ)) → length (prefixed x r) ≡ length r
unfolding prefixed
length_prefixed x [] = refl
length_prefixed x (y ∷ r) = ap suc (length_prefixed x r)

pub length_cross : (l r : List (List ℕ)) → length (cross l r) ≡ length l * length r
unfolding cross
length_cross [] r = grind arith
length_cross (x ∷ l) r = grind (arith, length-append, length_prefixed x r, length_cross l r)

at-prefixed : (x : List ℕ) (r : List (List ℕ)) (b : ℕ) → b < length r → get_or (prefixed x r) b [] ≡ x ++ get_or r b []
unfolding prefixed
at-prefixed x [] b h = absurd (omega arith)
at-prefixed x (y ∷ r) zero h = refl
at-prefixed x (y ∷ r) (suc b) h = at-prefixed x r b (omega arith)

-- a term of the product, by the places of its two parts
pub at-cross : (l r : List (List ℕ)) (a b : ℕ) → a < length l → b < length r → get_or (cross l r) (a * length r + b) [] ≡ get_or l a [] ++ get_or r b []
unfolding cross
at-cross [] r a b h k = absurd (omega arith)
at-cross (x ∷ l) r zero b h k =
    let e : zero * length r + b ≡ b = omega (arith, zero-mul (length r)) in
    rw e (get_or-append (prefixed x r) (cross l r) [] b (rw (length_prefixed x r) k) ∙ at-prefixed x r b k)
at-cross (x ∷ l) r (suc a) b h k =
    let e : suc a * length r + b ≡ length (prefixed x r) + (a * length r + b) = omega (arith, suc-mul a (length r), length_prefixed x r) in
    rw e (get_or-append-add (prefixed x r) (cross l r) (a * length r + b) [] ∙ at-cross l r a b (omega arith) k)

-- one more than a limit stands for all that are above it
module _ (m : ℕ) where
  pub min_below : (n : ℕ) → min m n < m → min m n ≡ n
  min_below n l = omega arith

  pub sat_add : (a b : ℕ) → min m (min m a + min m b) ≡ min m (a + b)
  sat_add a b = omega arith

-- and for every product that is above it
sat-mul : (m a b : ℕ) → min m (min m a * min m b) ≡ min m (a * b)
sat-mul m a b =
    ⊎_elim
    (λ (p : a < m). ⊎_elim (λ (q : b < m). grind arith) (λ (q : m ≤ b). ⊎_elim (λ (z : 0 < a). grind arith) (λ (z : a ≤ 0). grind arith) (lt_or 0 a)) (lt_or b m))
    (λ (p : m ≤ a).
    let e : min m a ≡ m = omega arith in
    rw e (⊎_elim (λ (z : 0 < b). ⊎_elim (λ (y : 0 < m). let f : 0 < min m b = omega arith in grind arith) (λ (y : m ≤ 0). omega arith) (lt_or 0 m)) (λ (z : b ≤ 0). grind arith) (lt_or 0 b)))
    (lt_or a m)

-- how many terms an `and` has, from the counts of its parts
pub count_and : (l r : List (List ℕ)) (a b : ℕ) → a ≡ min (most_terms + 1) (length l) → b ≡ min (most_terms + 1) (length r) → min (most_terms + 1) (a * b) ≡ min (most_terms + 1) (length (cross l r))
count_and l r a b e f = rw (e, f, length_cross l r) (sat-mul (most_terms + 1) (length l) (length r))

-- the depth is enough: the links below a node are at most its number
module _ (w : List ℕ) (sound : Sound w) where
  enough : (d e c : ℕ) → c ≤ d → c ≤ e → dnf d w c ≡ dnf e w c
  unfolding dnf
  enough zero zero c a b = refl
  enough zero (suc e) zero a b = refl
  enough zero (suc e) (suc c) a b = absurd (omega arith)
  enough (suc d) zero zero a b = refl
  enough (suc d) zero (suc c) a b = absurd (omega arith)
  enough (suc d) (suc e) zero a b = refl
  enough (suc d) (suc e) (suc k) a b =
      let l = sound.tables.lefts k in
      let r = sound.tables.rights k in
      rw (enough d e (at node_lefts k w) (omega arith) (omega arith), enough d e (at node_rights k w) (omega arith) (omega arith))

  -- the terms of a node by those of its children
  pub linked-at : (c k : ℕ) → c ≡ suc k → linked w c ≡ node_terms (at node_kinds k w) (at node_sets k w) (linked w (at node_lefts k w)) (linked w (at node_rights k w))
  unfolding linked dnf
  linked-at c k e =
      let l = sound.tables.lefts k in
      let r = sound.tables.rights k in
      rw (e, enough k (at node_lefts k w) (at node_lefts k w) l (omega arith), enough k (at node_rights k w) (at node_rights k w) r (omega arith))

-- nothing is under no link
pub none_linked : (w : List ℕ) (c : ℕ) → c ≡ 0 → linked w c ≡ []
unfolding linked dnf
none_linked w c e = rw e

-- what the words say of the node under a link
module _ (w : List ℕ) (sound : Sound w) (c : ℕ) (some : 0 < c) where
  pub linked_under : linked w c ≡ node_terms (at node_kinds (c - 1) w) (at node_sets (c - 1) w) (linked w (at node_lefts (c - 1) w)) (linked w (at node_rights (c - 1) w))
  linked_under = linked-at w sound c (c - 1) (omega arith)

  pub left_below : at node_lefts (c - 1) w < c
  left_below = omega (arith, sound.tables.lefts (c - 1))

  pub right_below : at node_rights (c - 1) w < c
  right_below = omega (arith, sound.tables.rights (c - 1))

pub ruleset reading = (none_linked, linked_under, left_below, right_below)
