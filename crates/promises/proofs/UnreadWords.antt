-- TWO SLICES THAT AGREE ON THE STATED WORDS: every word that is read there is the same, and a write keeps them so. Assumes nothing.
use mathlib.Core.Bool.{Bool, true, false, cond}
use mathlib.Core.List.{List, [], ◌∷◌}
use mathlib.Core.Logic.{⊎_elim}
use mathlib.Core.Path.{◌≡◌, refl, sym, ap, ◌∙◌}
use Prim.Native.Nat.{ℕ, zero, suc, ◌+◌, ◌-◌, ◌≤◌, ◌<◌, min}
use native.Mathlib.Omega.{arith}
use borrow.Author.Tests.{leb-true, leb-false, le-leb, lt-leb}
use lib.Dec.{leb}
use lib.ListN.{length, length-replicate, length-take, replicate, set, take}
use lib.Seq.{sets, sets-eq, take-set-le, take-set-lt}
use Rattle.std.proofs.Common.{append_assoc}
use Rattle.store.proofs.AreaLaws.{area_same, at_same, within}
use Rattle.rules.proofs.Choice.{lt_or, of_true}
use Rattle.store.specs.Area.{Fits, Write, area, at, blank, put, put_run, puts}
use Rattle.store.specs.declared.area.Area.{Area}
use Rattle.store.specs.Fresh.{whole}
use Rattle.store.specs.Layout.{map, table, words}
use Rattle.store.specs.Ranks.{inserted, moved}
use Rattle.store.specs.Shape.{counts_sound, in_range, nodes_sound, sound_shape, spans_sound}
use Rattle.sync.specs.Sweep.{sweep}

-- they agree on the stated words, whatever lies behind them
abbrev pub Alike : List ℕ → List ℕ → Type 0
Alike w u = area whole w ≡ area whole u

-- being long enough is seen from the first words alone
least : (n k : ℕ) → leb n (min n k) ≡ leb n k
least n k = go (leb n k) refl
  where
    go : (b : Bool) → leb n k ≡ b → leb n (min n k) ≡ b
    go true h = let l = leb-true n k h in le-leb n (min n k) (omega arith)
    go false h = let l = leb-false n k h in lt-leb n (min n k) (omega arith)

long_by : (n : ℕ) (w u : List ℕ) → take n w ≡ take n u → leb n (length w) ≡ leb n (length u)
long_by n w u e = sym (seen w) ∙ ap (λ l. leb n (length l)) e ∙ seen u
  where
    seen : (l : List ℕ) → leb n (length (take n l)) ≡ leb n (length l)
    seen l = rw length-take (least n (length l))

-- a write is seen from them alone
set_by : (n k x : ℕ) (w u : List ℕ) → take n w ≡ take n u → take n (set w k x) ≡ take n (set u k x)
set_by n k x w u e =
    ⊎_elim
    (λ (h : k < n). take-set-lt n w k x h ∙ ap (λ l. set l k x) e ∙ sym (take-set-lt n u k x h))
    (λ (h : n ≤ k). take-set-le n w k x h ∙ e ∙ sym (take-set-le n u k x h))
    (lt_or k n)

-- one word, several words
pub put_alike : (a : Area) (i x : ℕ) (w u : List ℕ) → Alike w u → Alike (put a i x w) (put a i x u)
unfolding area put
put_alike a i x w u e = set_by words (a.base + i) x w u e

pub puts_alike : (xs : List Write) (w u : List ℕ) → Alike w u → Alike (puts xs w) (puts xs u)
puts_alike [] w u e = e
puts_alike (x ∷ xs) w u e = puts_alike xs (put x.to x.place x.word w) (put x.to x.place x.word u) (put_alike x.to x.place x.word w u e)

pub run_alike : (a : Area) (i : ℕ) (xs w u : List ℕ) → Alike w u → Alike (put_run a i xs w) (put_run a i xs u)
unfolding put_run
run_alike a i [] w u e = e
run_alike a i (x ∷ xs) w u e = run_alike a (i + 1) xs (put a i x w) (put a i x u) (put_alike a i x w u e)

-- a blanked area
sets_by : (n k : ℕ) (xs w u : List ℕ) → take n w ≡ take n u → take n (sets w k xs) ≡ take n (sets u k xs)
sets_by n k [] w u e = e
sets_by n k (x ∷ xs) w u e = sets_by n (suc k) xs (set w k x) (set u k x) (set_by n k x w u e)

blank_is : (a : Area) (w : List ℕ) → Fits a w → blank a w ≡ sets w a.base (replicate a.size 0)
unfolding blank
blank_is a w h =
    let zeros : List ℕ = replicate a.size 0 in
    let n : length zeros ≡ a.size = length-replicate a.size 0 in
    let e = sets-eq {A = ℕ} zeros w a.base (omega arith) in
    sym (e ∙ append_assoc (take a.base w) zeros _ ∙ rw n refl)

pub blank_alike : (a : Area) (w u : List ℕ) → Fits a w → Fits a u → Alike w u → Alike (blank a w) (blank a u)
unfolding area
blank_alike a w u h l e = rw (blank_is a w h, blank_is a u l) (sets_by words a.base (replicate a.size 0) w u e)

-- one of two, by a test
pub either_alike : (b : Bool) (s t v x : List ℕ) → Alike s t → Alike v x → Alike (cond b s v) (cond b t x)
either_alike true s t v x f g = f
either_alike false s t v x f g = g

-- a swept area, by tests that are the same
pub sweep_alike : (a : Area) (p q : ℕ → Bool) (x : ℕ) (w u : List ℕ) (n : ℕ) → ((i : ℕ) → p i ≡ q i) → Alike w u → Alike (sweep a p x w n) (sweep a q x u n)
unfolding sweep
sweep_alike a p q x w u zero f e = e
sweep_alike a p q x w u (suc n) f e =
    let before = sweep_alike a p q x w u n f e in
    rw (f n) (either_alike (q n) _ _ _ _ (put_alike a n x (sweep a p x w n) (sweep a q x u n) before) before)

-- what is read
module _ (w u : List ℕ) (e : Alike w u) where
  pub area_alike : (a : Area) → within a whole ≡ true → area a w ≡ area a u
  area_alike a t = area_same a whole w u (of_true (within a whole) t) e

  pub at_alike : (a : Area) (i : ℕ) → within a whole ≡ true → at a i w ≡ at a i u
  at_alike a i t = at_same a whole w u (of_true (within a whole) t) e i

  pub long_alike : leb words (length w) ≡ leb words (length u)
  unfolding area
  long_alike = long_by words w u e

  ranges-alike : in_range table w ≡ in_range table u
  unfolding in_range
  ranges-alike = simp area_alike

  tables-alike : spans_sound w ≡ spans_sound u
  unfolding spans_sound
  tables-alike = simp (area_alike, at_alike)

  nodes-alike : nodes_sound w ≡ nodes_sound u
  unfolding nodes_sound
  nodes-alike = simp area_alike

  counts-alike : counts_sound w ≡ counts_sound u
  unfolding counts_sound
  counts-alike = simp at_alike

  -- so both are of sound shape, or neither is
  pub sound_alike : sound_shape w ≡ sound_shape u
  unfolding sound_shape
  sound_alike = simp (long_alike, ranges-alike, area_alike map refl, tables-alike, nodes-alike, counts-alike)

-- words put in at their rank
moved_alike : (a : Area) (k n : ℕ) (w u : List ℕ) → within a whole ≡ true → Alike w u → Alike (moved a k n w) (moved a k n u)
unfolding moved
moved_alike a k zero w u t e = e
moved_alike a k (suc n) w u t e =
    moved_alike a k n _ _ t (rw (at_alike w u e a (k + n) t) (put_alike a (k + suc n) (at a (k + n) u) w u e))

pub inserted_alike : (a : Area) (rank count x : ℕ) (w u : List ℕ) → within a whole ≡ true → Alike w u → Alike (inserted a rank count x w) (inserted a rank count x u)
unfolding inserted
inserted_alike a rank count x w u t e = put_alike a rank x (moved a rank (count - rank) w) (moved a rank (count - rank) u) (moved_alike a rank (count - rank) w u t e)
