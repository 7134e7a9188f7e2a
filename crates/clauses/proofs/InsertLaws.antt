-- Words put in at their ranks: what that keeps, and what it leaves of other areas. Assumes nothing.
use mathlib.Core.List.{List, [], ◌∷◌}
use mathlib.Core.Path.{◌≡◌, refl, ◌∙◌}
use Prim.Native.Nat.{ℕ, zero, suc, ◌+◌, ◌-◌, ◌≤◌, ◌<◌}
use native.Mathlib.Omega.{arith}
use lib.Dec.{T}
use lib.ListN.{length}
use Rattle.store.proofs.AreaLaws.{length_put, area_kept, at_kept}
use Rattle.rules.proofs.Choice.{both, true_of}
use Rattle.store.proofs.RankLaws.{length_inserted, area-inserted_kept}
use Rattle.store.proofs.Soundness.{ranged-beside, tabled-same, untied, sound-put}
use Rattle.store.specs.declared.area.Area.{Area}
use Rattle.store.specs.Area.{area, at, put, Write, apart, clear_of, ◌upto◌}
use Rattle.store.specs.Layout.{mirror_length, sync_floor, propagated, trail_length, map, clause_ids, tables_region, table}
use Rattle.store.specs.Ranks.{moved, inserted}
use Rattle.store.specs.Shape.{listed, Sound}

-- what each write of an insertion keeps, the insertion keeps
module _ (P : List ℕ → Type 0) (b : Area) (moves : (i j : ℕ) (w : List ℕ) → i < b.size → P w → P (put b i (at b j w) w)) where
  moved_keeps : (k n : ℕ) (w : List ℕ) → k + n < b.size → P w → P (moved b k n w)
  unfolding moved
  moved_keeps k zero w h s = s
  moved_keeps k (suc n) w h s = moved_keeps k n (put b (k + suc n) (at b (k + n) w) w) (omega arith) (moves (k + suc n) (k + n) w h s)

  inserted-keeps : (rank count x : ℕ) (w : List ℕ) → ((v : List ℕ) → P v → P (put b rank x v)) → rank ≤ count → count < b.size → P w → P (inserted b rank count x w)
  unfolding inserted
  inserted-keeps rank count x w last h l s = last (moved b rank (count - rank) w) (moved_keeps rank (count - rank) w (omega arith) s)

-- a word in range
pub sound-inserted : (b : Area) (m rank count x : ℕ) (w : List ℕ) → T (listed (b upto m) table) → T (untied b) → rank ≤ count → count < b.size → x ≤ m → Sound w → Sound (inserted b rank count x w)
sound-inserted b m rank count x w t u h l q s =
    inserted-keeps Sound b (λ i j v k r. sound-put b m i (at b j v) v t u k (r.ranges b m t j) r) rank count x w (λ v r. sound-put b m rank x v t u (omega arith) q r) h l s

-- clause ids may be any word
sound-id : (i x : ℕ) (w : List ℕ) → i < clause_ids.size → Sound w → Sound (put clause_ids i x w)
sound-id i x w h s =
    record {
      long = rw (length_put clause_ids i x w) s.long;
      ranges = ranged-beside clause_ids w refl s.ranges i x h;
      cells = λ v. rw (at_kept map clause_ids i v x w tt h) (s.cells v);
      tables = tabled-same (put clause_ids i x w) w (area_kept tables_region clause_ids i x w tt h) s.tables;
      floor_trail = rw (at_kept sync_floor clause_ids i 0 x w tt h, at_kept trail_length clause_ids i 0 x w tt h) s.floor_trail;
      floor_mirror = rw (at_kept sync_floor clause_ids i 0 x w tt h, at_kept mirror_length clause_ids i 0 x w tt h) s.floor_mirror;
      index = rw (at_kept propagated clause_ids i 0 x w tt h, at_kept trail_length clause_ids i 0 x w tt h) s.index;
    }

pub sound-id-inserted : (rank count x : ℕ) (w : List ℕ) → rank ≤ count → count < clause_ids.size → Sound w → Sound (inserted clause_ids rank count x w)
sound-id-inserted rank count x w h l s =
    inserted-keeps Sound clause_ids (λ i j v k r. sound-id i (at clause_ids j v) v k r) rank count x w (λ v r. sound-id rank x v (omega arith) r) h l s

-- a row of insertions among as many words each, the first one first
abbrev pub inserted_all : ℕ → List Write → List ℕ → List ℕ
inserted_all count [] w = w
inserted_all count (x ∷ xs) w = inserted_all count xs (inserted x.to x.place count x.word w)

-- each has a rank among them and room for one more
abbrev pub Room : ℕ → List Write → Type 0
Room count [] = Unit {0}
Room count (x ∷ xs) = ((x.place ≤ count) × (count < x.to.size)) × Room count xs

pub length_inserted-all : (count : ℕ) (xs : List Write) (w : List ℕ) → Room count xs → length (inserted_all count xs w) ≡ length w
length_inserted-all count [] w r = refl
length_inserted-all count (x ∷ xs) w r =
    length_inserted-all count xs (inserted x.to x.place count x.word w) r.1
    ∙ length_inserted x.to x.place count x.word w r.0.0 r.0.1

pub area-inserted-all : (a : Area) (count : ℕ) (xs : List Write) (w : List ℕ) → T (clear_of a xs) → Room count xs → area a (inserted_all count xs w) ≡ area a w
area-inserted-all a count [] w t r = refl
area-inserted-all a count (x ∷ xs) w t r =
    let b = both (apart a x.to) (clear_of a xs) (true_of (clear_of a (x ∷ xs)) t) in
    area-inserted-all a count xs (inserted x.to x.place count x.word w) (rw b.1 tt) r.1
    ∙ area-inserted_kept x.to x.place count x.word w r.0.0 r.0.1 a (rw b.0 tt)
