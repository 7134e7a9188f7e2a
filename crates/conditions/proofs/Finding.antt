-- Finding a term under a link: each way that the code takes is a good one. Assumes nothing.
use mathlib.Core.List.{List, [], ◌∷◌, ◌++◌}
use mathlib.Core.Path.{◌≡◌, sym, ap, ◌∙◌}
use Prim.Native.Nat.{ℕ, ◌+◌, ◌-◌, ◌*◌, ◌/◌, ◌%◌, ◌≤◌, ◌<◌}
use native.Mathlib.Nat.{div-add-mod', div-lt_iff_lt-mul, mod-lt}
use native.Mathlib.Omega.{arith}
use lib.ListN.{length, get_or, length-append, get_or-append}
use lib.Seq.{get_or-append-add}
use Rattle.store.specs.Limits.{most_terms}
use Rattle.conditions.proofs.Terms.{length_cross, at-cross}
use Rattle.conditions.specs.Dnf.{cross, linked, term_of}
use Rattle.conditions.specs.Ways.{Tallied, Asked, Good}
use Rattle.conditions.specs.declared.dnf.Way.TheVariants.{Leaf, One, Two}

-- term i under link c is looked for
module _ (w counts : List ℕ) (c i : ℕ) (tallied : Tallied w counts) (asked : Asked w c i) where
  -- a count that is not above the limit is exact
  exact : (d : ℕ) → d < c → length (linked w d) ≤ most_terms → get_or counts d 0 ≡ length (linked w d)
  exact d h m = omega (arith, tallied d (omega (arith, asked.inside)))

  pub leaf_way : (v : ℕ) → linked w c ≡ (v ∷ []) ∷ [] → Good w c i (Leaf v)
  unfolding term_of
  leaf_way v is =
      let a = ap length is in
      let z : i ≡ 0 = omega (arith, asked.there) in
      rw (is, z)

  -- a node with two links
  module _ (l r : ℕ) (l-below : l < c) (r-below : r < c) where
    abbrev L : List (List ℕ)
    L = linked w l

    abbrev R : List (List ℕ)
    R = linked w r

    module _ (is : linked w c ≡ cross L R) where
      and-length : length (linked w c) ≡ length L * length R
      and-length = ap length is ∙ length_cross L R

      under : i < length L * length R
      under = rw and-length at asked.there

      L-pos : 0 < length L
      L-pos = grind (arith, under)

      R-pos : 0 < length R
      R-pos = grind (arith, under)

      L-few : length L ≤ most_terms
      L-few = grind (arith, and-length, asked.few, R-pos)

      R-few : length R ≤ most_terms
      R-few = grind (arith, and-length, asked.few, L-pos)

      counted : get_or counts r 0 ≡ length R
      counted = exact r r-below R-few

      pub and_pos : 0 < get_or counts r 0
      and_pos = rw counted R-pos

      pub two_way : Good w c i (Two (record { link = l; index = i / get_or counts r 0 }) (record { link = r; index = i % get_or counts r 0 }))
      unfolding term_of
      two_way =
          let q : i / length R < length L = (div-lt_iff_lt-mul R-pos).1 under in
          let m : i % length R < length R = mod-lt i R-pos in
          rw counted
          (l-below, record { inside = omega (arith, asked.inside, l-below); there = q; few = L-few }, r-below, record { inside = omega (arith, asked.inside, r-below); there = m; few = R-few }, rw is (ap (λ n. get_or (cross L R) n []) (sym (div-add-mod' i (length R))) ∙ at-cross L R (i / length R) (i % length R) q m))

    module _ (is : linked w c ≡ L ++ R) where
      or-length : length (linked w c) ≡ length L + length R
      or-length = ap length is ∙ length-append L R

      left-few : length L ≤ most_terms
      left-few = omega (arith, or-length, asked.few)

      right-few : length R ≤ most_terms
      right-few = omega (arith, or-length, asked.few)

      left-count : get_or counts l 0 ≡ length L
      left-count = exact l l-below left-few

      pub one_left : i < get_or counts l 0 → Good w c i (One (record { link = l; index = i }))
      unfolding term_of
      one_left h =
          let q : i < length L = omega (arith, left-count) in
          (l-below, record { inside = omega (arith, asked.inside, l-below); there = q; few = left-few }, rw is (get_or-append L R [] i q))

      pub one_right : get_or counts l 0 ≤ i → Good w c i (One (record { link = r; index = i - get_or counts l 0 }))
      unfolding term_of
      one_right h =
          let e : i ≡ length L + (i - get_or counts l 0) = omega (arith, left-count) in
          let q : i - get_or counts l 0 < length R = omega (arith, left-count, or-length, asked.there) in
          (r-below, record { inside = omega (arith, asked.inside, r-below); there = q; few = right-few }, rw is (ap (λ n. get_or (L ++ R) n []) e ∙ get_or-append-add L R (i - get_or counts l 0) []))

pub ruleset ways = (leaf_way, and_pos, two_way, one_left, one_right)
