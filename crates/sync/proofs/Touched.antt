-- The table of touched variables: what it tells, and the loops that enter variables. Assumes nothing.
use mathlib.Core.Bool.{Bool, true, false, cond, ◌||◌}
use mathlib.Core.List.{List, [], ◌∷◌, ◌++◌}
use mathlib.Core.Logic.{⊎_elim}
use mathlib.Core.Path.{◌≡◌, refl, sym, ap, ◌∙◌}
use Prim.Native.Nat.{ℕ, zero, suc, ◌+◌, ◌-◌, ◌≤◌, ◌<◌}
use native.Mathlib.Omega.{arith}
use borrow.Author.Tests.{eqb-true, eqb-false, ne_eqb}
use lib.Dec.{eqb}
use lib.ListN.{length, get_or, set, replicate, get_or-replicate}
use lib.Seq.{get_or-set_same, get_or-set_other}
use Rattle.rules.specs.Numbers.{from}
use Rattle.rules.specs.Walk.{member}
use Rattle.rules.proofs.Choice.{lt_or, or_assoc, or_none, or_true}
use Rattle.store.specs.Limits.{variables}
use Rattle.store.specs.Area.{at}
use Rattle.store.specs.Layout.{mirror_length, sync_floor, trail_length}
use Rattle.sync.specs.Table.{found_in, in_table}
use Rattle.sync.specs.Sync.{mirror_at, new_entries, old_entries, touched_in}
use Rattle.trail.specs.Assignment.{variable_at}
use Rattle.rules.proofs.Froms.{upto_next, upto_done}

not_found : (t : List Bool) (v n : ℕ) → n ≤ v → member v (found_in t n) ≡ false
unfolding found_in member
not_found t v zero h = refl
not_found t v (suc n) h = go (get_or t n false) (not_found t v n (omega arith))
  where
    go : (b : Bool) → member v (found_in t n) ≡ false → member v (cond b (n ∷ found_in t n) (found_in t n)) ≡ false
    go true e = rw (ne_eqb v n (omega arith)) e
    go false e = e

-- the place of a variable tells whether the table has it
pub found_is : (t : List Bool) (v n : ℕ) → v < n → get_or t v false ≡ member v (found_in t n)
unfolding found_in member
found_is t v zero h = absurd (omega arith)
found_is t v (suc n) h = go (eqb v n) (get_or t n false) refl refl (found_is t v n)
  where
    go : (a b : Bool) → eqb v n ≡ a → get_or t n false ≡ b → (v < n → get_or t v false ≡ member v (found_in t n)) → get_or t v false ≡ member v (cond b (n ∷ found_in t n) (found_in t n))
    go true true e f ih = rw (e, eqb-true v n e) f
    go true false e f ih = rw (eqb-true v n e, not_found t n n (omega arith)) f
    go false true e f ih = rw e (ih (omega (arith, eqb-false v n e)))
    go false false e f ih = ih (omega (arith, eqb-false v n e))

-- no variable is in an empty table
pub empty_tells : (v : ℕ) → member v (in_table (replicate variables false)) ≡ false
empty_tells v = ⊎_elim
    (λ (h : v < variables). sym (found_is (replicate variables false) v variables h) ∙ get_or-replicate variables v false false h)
    (λ (h : variables ≤ v). not_found (replicate variables false) v variables h)
    (lt_or v variables)

-- a table with one variable more
pub entered_tells : (t : List Bool) (v : ℕ) → v < variables → length t ≡ variables → (x : ℕ) → member x (in_table (set t v true)) ≡ member x (in_table t) || eqb x v
entered_tells t v l size x = ⊎_elim inner outer (lt_or x variables)
  where
    here : (b : Bool) → eqb x v ≡ b → x < variables → get_or (set t v true) x false ≡ get_or t x false || b
    here true e h = rw (eqb-true x v e, get_or-set_same t v true false (omega arith)) (sym (or_true (get_or t v false)))
    here false e h = rw (get_or-set_other t v x true false (eqb-false x v e)) (sym (or_none (get_or t x false)))

    inner : x < variables → member x (in_table (set t v true)) ≡ member x (in_table t) || eqb x v
    inner h = sym (found_is (set t v true) x variables h) ∙ here (eqb x v) refl h ∙ rw (found_is t x variables h)

    outer : variables ≤ x → member x (in_table (set t v true)) ≡ member x (in_table t) || eqb x v
    outer h = rw (not_found (set t v true) x variables h, not_found t x variables h, ne_eqb x v (omega arith))

-- a number is in two lists, one behind the other, if it is in one of them
pub member-both : (v : ℕ) (xs ys : List ℕ) → member v (xs ++ ys) ≡ member v xs || member v ys
unfolding member
member-both v [] ys = refl
member-both v (x ∷ xs) ys = rw (member-both v xs ys) (or_assoc (eqb v x) (member v xs) (member v ys))

-- the loop that enters variables: those that are in and those that are left are all that a test passes
module _ (p : ℕ → Bool) (f : ℕ → ℕ) (t : List ℕ) (i end : ℕ) (so : (v : ℕ) → member v t || member v (from f i (end - i)) ≡ p v) where
  pub enter_turn : (x : ℕ) → x ≡ f i → (r : List ℕ) → ((v : ℕ) → member v r ≡ member v t || eqb v x) → i < end → (v : ℕ) → member v r || member v (from f (i + 1) (end - (i + 1))) ≡ p v
  unfolding member
  enter_turn x is r e h v =
      rw (e v, is)
      (sym (or_assoc (member v t) (eqb v (f i)) (member v (from f (i + 1) (end - (i + 1)))))
      ∙ ap (λ (l : List ℕ). member v t || member v l) (sym (upto_next f i end h))
      ∙ so v)

  pub enter_done : end ≤ i → (v : ℕ) → member v t ≡ p v
  unfolding member
  enter_done h v = sym (or_none (member v t)) ∙ ap (λ (l : List ℕ). member v t || member v l) (sym (upto_done f i end h)) ∙ so v

-- what is touched, in two runs, into a table of some variables
module _ (w o t : List ℕ) (floor n : ℕ) (is : floor ≡ at sync_floor 0 w) where
  pub old_first : n ≡ at mirror_length 0 w → (v : ℕ) → member v o || member v (from (mirror_at w) floor (n - floor)) ≡ member v o || member v (old_entries w)
  unfolding old_entries
  old_first e v = rw (is, e)

  pub new_next : n ≡ at trail_length 0 w → ((v : ℕ) → member v t ≡ member v o || member v (old_entries w)) → (v : ℕ) → member v t || member v (from (variable_at w) floor (n - floor)) ≡ member v o || member v (touched_in w)
  unfolding touched_in new_entries
  new_next e old v =
      rw (old v, is, e, member-both v (old_entries w) (from (variable_at w) (at sync_floor 0 w) (at trail_length 0 w - at sync_floor 0 w)))
      (sym (or_assoc (member v o) (member v (old_entries w)) (member v (from (variable_at w) (at sync_floor 0 w) (at trail_length 0 w - at sync_floor 0 w)))))
