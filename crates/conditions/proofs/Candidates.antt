-- Conjuncts and their candidates: what the code's loops and tests say of the definition. Assumes nothing.
use mathlib.Core.Bool.{Bool, true, false, ◌&&◌, ◌||◌}
use mathlib.Core.List.{List}
use mathlib.Core.Path.{◌≡◌, sym, ap, ◌∙◌}
use Prim.Native.Nat.{ℕ, ◌+◌, ◌-◌, ◌≤◌, ◌<◌, min}
use native.Mathlib.Nat.{zero-add}
use native.Mathlib.Numerals.{add-one}
use native.Mathlib.Omega.{arith}
use borrow.Author.Tests.{leb-true, eqb-true}
use lib.Dec.{leb, eqb}
use lib.ListN.{length, get_or, take, drop, drop_of_length-le}
use lib.Seq.{drop-cons}
use Rattle.conditions.specs.Disjunct.{last_kind, conjunct, holds_at, sane, sane_at, sane_all}
use Rattle.trail.specs.Assignment.{assigned_true}
use Rattle.conditions.specs.Truth.{some}
use Rattle.rules.proofs.Choice.{both}
use Rattle.store.proofs.Counting.{every-at}
use Rattle.rules.proofs.Loops.{all-at}
use Rattle.store.specs.Limits.{last_variable}
use Rattle.rules.specs.Numbers.{all_from}
use Rattle.store.specs.Shape.{every, up_to}

-- looking for an element that passes: what is left of the search is the whole search
module _ (p : ℕ → Bool) (l : List ℕ) (i : ℕ) (so : some p l ≡ some p (drop i l)) where
  turn : i < length l → some p l ≡ p (get_or l i 0) || some p (drop (i + 1) l)
  unfolding some
  turn h = so ∙ rw (drop-cons l i 0 h, add-one i)

  pub some_hit : i < length l → p (get_or l i 0) ≡ true → true ≡ some p l
  some_hit h e = sym (rw e at (turn h))

  pub some_more : i < length l → p (get_or l i 0) ≡ false → some p l ≡ some p (drop (i + 1) l)
  some_more h e = rw e at (turn h)

  pub some_ends : length l ≤ i → false ≡ some p l
  unfolding some
  some_ends h = sym (so ∙ rw (drop_of_length-le l {i = i} h))

pub variable_at : (l : List ℕ) (i : ℕ) → every (up_to last_variable) l ≡ true → i < length l → get_or l i 0 ≤ last_variable
variable_at l i e h = leb-true (get_or l i 0) last_variable (every-at (up_to last_variable) l e i h)

pub ruleset seeking = (some_hit, some_more, some_ends, variable_at)

-- sane lists are of one length
module _ (kinds starts lengths cells : List ℕ) (s : sane_all kinds starts lengths cells ≡ true) where
  sane_parts : ((length starts ≡ length kinds) × (length lengths ≡ length kinds)) × (all_from (sane_at kinds starts lengths cells) 0 (length kinds) ≡ true)
  unfolding sane_all
  sane_parts =
      let t1 = eqb (length starts) (length kinds) in
      let t2 = eqb (length lengths) (length kinds) in
      let a = both (t1 && t2) (all_from (sane_at kinds starts lengths cells) 0 (length kinds)) s in
      let b = both t1 t2 a.0 in
      ((eqb-true _ _ b.0, eqb-true _ _ b.1), a.1)

  pub paired_to : (n : ℕ) → n ≡ min (length starts) (length lengths) → length kinds ≤ n
  paired_to n e = rw (e, sane_parts.0.0, sane_parts.0.1) (omega arith)

  -- conjunct j, as a loop over the starts and the lengths has it: its range is a and b
  module _ (j a b : ℕ) (h : j < length starts) (e : a ≡ get_or starts j 0) (f : b ≡ get_or lengths j 0) where
    pub paired : j < length kinds
    paired = omega (arith, sane_parts.0.0, h)

    part-is : take (a + b - a) (drop a cells) ≡ conjunct cells (get_or starts j 0) (get_or lengths j 0)
    part-is =
        let z : a + b - a ≡ b = omega arith in
        rw (z, e, f)

    sane-parts : (get_or starts j 0 + get_or lengths j 0 ≤ length cells) × (every (up_to last_variable) (conjunct cells (get_or starts j 0) (get_or lengths j 0)) ≡ true)
    unfolding sane_at sane
    sane-parts =
        let k1 = leb (get_or kinds j 0) last_kind in
        let k2 = leb (get_or starts j 0 + get_or lengths j 0) (length cells) in
        let d = both (k1 && k2) (every (up_to last_variable) (conjunct cells (get_or starts j 0) (get_or lengths j 0))) (rw zero-add at (all-at (sane_at kinds starts lengths cells) 0 (length kinds) j sane_parts.1 paired)) in
        (leb-true _ _ (both k1 k2 d.0).1, d.1)

    pub part_inside : a + b ≤ length cells
    part_inside = omega (arith, e, f, sane-parts.0)

    pub part_named : every (up_to last_variable) (take (a + b - a) (drop a cells)) ≡ true
    part_named = ap (every (up_to last_variable)) part-is ∙ sane-parts.1

    pub part_holds : (w : List ℕ) → some (assigned_true w) (take (a + b - a) (drop a cells)) ≡ holds_at w starts lengths cells j
    unfolding holds_at
    part_holds w = ap (some (assigned_true w)) part-is
