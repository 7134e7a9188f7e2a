-- THE TRAIL OF THE WORDS: its length and entries, and what one entry more, or some less, make of it and of the map. Assumes nothing.
use mathlib.Core.Bool.{Bool, true, false, cond}
use mathlib.Core.List.{List, [], ◌∷◌, ◌++◌}
use mathlib.Core.Logic.{◌≢◌}
use mathlib.Core.Path.{◌≡◌, refl, ap, sym, ◌∙◌}
use Prim.Native.Nat.{ℕ, suc, ◌+◌, ◌≤◌, ◌<◌}
use native.Mathlib.Nat.{zero-add}
use native.Mathlib.Omega.{arith}
use borrow.Author.Tests.{eqb-true, eqb-false}
use lib.Dec.{eqb}
use lib.ListN.{get_or, take}
use lib.Seq.{take_all}
use Rattle.meaning.specs.Standing.{entry_at, trail_of}
use Rattle.promises.proofs.Genuine.{Mapped}
use Rattle.rules.proofs.Map.{Grown, cut-grown, none, pop_map, push_grown, push_map}
use Rattle.rules.specs.Store.{changed}
use Rattle.rules.specs.Sync.{Entry, value, value_of}
use Rattle.store.specs.Area.{at}
use Rattle.store.specs.Layout.{map, trail_length, trail_variables}
use Rattle.trail.specs.Cell.{cell_value}
use Rattle.rules.specs.declared.Value.TheVariants.{Undecided}
use Rattle.trail.specs.Assignment.{assigned}
use Rattle.rules.specs.Numbers.{from}
use Rattle.rules.proofs.Froms.{from_agree, from_more, get_d_from, take_from}
use Rattle.meaning.proofs.Lists.{length_trail}

-- the trail's length and its entries
trail-variable : (w : List ℕ) (k : ℕ) → k < at trail_length 0 w → (get_or (trail_of w) k none).variable ≡ at trail_variables k w
unfolding trail_of entry_at
trail-variable w k h = ap (λ (d : Entry). d.variable) (get_d_from (entry_at w) 0 k (at trail_length 0 w) none h ∙ ap (entry_at w) (zero-add k))

-- one entry more, the last ones less, none
pub trail-pushed : (s w : List ℕ) → at trail_length 0 s ≡ at trail_length 0 w + 1 → ((k : ℕ) → k < at trail_length 0 w → entry_at s k ≡ entry_at w k) → trail_of s ≡ trail_of w ++ (entry_at s (at trail_length 0 w) ∷ [])
unfolding trail_of
trail-pushed s w c h =
    let n : ℕ = at trail_length 0 w in
    let e : at trail_length 0 s ≡ suc n = omega (arith, c) in
    ap (from (entry_at s) 0) e
    ∙ from_more (entry_at s) 0 n
    ∙ ap (λ (l : List Entry). l ++ (entry_at s (0 + n) ∷ [])) (from_agree (entry_at s) (entry_at w) 0 n (λ k a l. h k (omega arith)))
    ∙ ap (λ (k : ℕ). from (entry_at w) 0 n ++ (entry_at s k ∷ [])) (zero-add n)

pub trail-cut : (s w : List ℕ) (n : ℕ) → at trail_length 0 s ≡ n → n ≤ at trail_length 0 w → ((k : ℕ) → k < n → entry_at s k ≡ entry_at w k) → trail_of s ≡ take n (trail_of w)
unfolding trail_of
trail-cut s w n c l h =
    ap (from (entry_at s) 0) c
    ∙ from_agree (entry_at s) (entry_at w) 0 n (λ k a q. h k (omega arith))
    ∙ sym (take_from (entry_at w) n 0 (at trail_length 0 w) l)

pub trail-none : (w : List ℕ) → at trail_length 0 w ≡ 0 → trail_of w ≡ []
unfolding trail_of from
trail-none w c = ap (from (entry_at w) 0) c

mapped_by : (w : List ℕ) (t : List Entry) → trail_of w ≡ t → ((v : ℕ) → assigned w v ≡ value t v) → Grown t → Mapped w
mapped_by w t e told g = record { told = λ v. told v ∙ ap (λ (d : List Entry). value d v) (sym e); grown = rw e g }

-- a function that another one is but at one number
changed-at : {A : Type 0} (f g : ℕ → A) (k : ℕ) (x : A) → g k ≡ x → ((j : ℕ) → j ≢ k → g j ≡ f j) → (j : ℕ) → g j ≡ changed f k x j
changed-at {A} f g k x h n j = go (eqb j k) refl
  where
    go : (b : Bool) → eqb j k ≡ b → g j ≡ cond b x (f j)
    go true e = ap g (eqb-true j k e) ∙ h
    go false e = n j (eqb-false j k e)

-- THE MAP IS THE TRAIL'S after a push of an undecided variable, after a pop, and where both are empty
module _ (s w : List ℕ) (m : Mapped w) where
  pub mapped-pushed : (d : Entry) → trail_of s ≡ trail_of w ++ (d ∷ []) → assigned w d.variable ≡ Undecided → assigned s d.variable ≡ value_of d.positive → ((v : ℕ) → v ≢ d.variable → assigned s v ≡ assigned w v) → Mapped s
  mapped-pushed d e u new old =
      mapped_by s (trail_of w ++ (d ∷ [])) e
      (λ v. changed-at (assigned w) (assigned s) d.variable (value_of d.positive) new old v ∙ push_map (assigned w) (trail_of w) d m.told u v)
      (push_grown (trail_of w) d (sym (m.told d.variable) ∙ u) m.grown)

  pub mapped-popped : (n : ℕ) → suc n ≡ at trail_length 0 w → trail_of s ≡ take n (trail_of w) → assigned s (at trail_variables n w) ≡ Undecided → ((v : ℕ) → v ≢ at trail_variables n w → assigned s v ≡ assigned w v) → Mapped s
  mapped-popped n c e new old =
      let x = trail-variable w n (omega (arith, c)) in
      let all = take_all (suc n) (trail_of w) (omega (arith, c, length_trail w)) in
      mapped_by s (take n (trail_of w)) e
      (λ v.
      changed-at (assigned w) (assigned s) (at trail_variables n w) Undecided new old v
      ∙ ap (λ (y : ℕ). changed (assigned w) y Undecided v) (sym x)
      ∙ pop_map (assigned w) (trail_of w) n (omega (arith, c, length_trail w)) m.grown (λ u. m.told u ∙ ap (λ (d : List Entry). value d u) (sym all)) v)
      (cut-grown (trail_of w) n m.grown)

pub mapped-none : (w : List ℕ) → at trail_length 0 w ≡ 0 → ((v : ℕ) → at map v w ≡ 0) → Mapped w
unfolding assigned value cell_value Grown
mapped-none w c z = mapped_by w [] (trail-none w c) (λ v. rw (z v)) (λ i l. absurd (omega arith))
