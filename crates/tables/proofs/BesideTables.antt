-- What writes in the tables' region leave: every area apart from it, and the sound shape. Assumes nothing.
use mathlib.Core.Bool.{Bool, true}
use mathlib.Core.List.{List, [], ◌∷◌}
use mathlib.Core.Logic.{⊎_elim}
use mathlib.Core.Path.{◌≡◌, refl, ◌∙◌}
use Prim.Native.Nat.{ℕ, ◌+◌, ◌≤◌, ◌<◌}
use native.Mathlib.Omega.{arith}
use borrow.Author.Tests.{le-leb, ne_eqb}
use lib.Dec.{T}
use lib.ListN.{length}
use Rattle.store.proofs.AreaLaws.{length_put, at-put-same, at-put_else, area_kept, at_kept, within, at_same, apart-inside}
use Rattle.rules.proofs.Choice.{both, eq_or}
use Rattle.store.proofs.Runs.{area-run_kept}
use Rattle.store.specs.declared.area.Area.{Area}
use Rattle.store.specs.Area.{area, at, put, put_run, Fits, apart}
use Rattle.store.specs.Layout.{mirror_length, sync_floor, propagated, trail_length, map, list_starts, single_cells, union_cells, disjunction_starts, disjunction_sizes, node_lefts, node_rights, single_starts, single_lengths, union_starts, union_lengths, words, region, tables_region}
use Rattle.store.specs.Limits.{most_disjunction_size}
use Rattle.store.specs.Shape.{every, lies, Ranged, Tabled, Sound}

-- the words s are those of w outside the tables
abbrev pub Beside : List ℕ → List ℕ → Type 0
Beside s w = (a : Area) → T (apart a tables_region) → area a s ≡ area a w

pub beside_none : (w : List ℕ) → Beside w w
beside_none w a p = refl

pub beside-put : (b : Area) (i x : ℕ) (s w : List ℕ) → T (within b tables_region) → i < b.size → Beside s w → Beside (put b i x s) w
beside-put b i x s w t h k a p = area_kept a b i x s (apart-inside a b tables_region p t) h ∙ k a p

pub beside-run : (b : Area) (i : ℕ) (xs s w : List ℕ) → T (within b tables_region) → i + length xs ≤ b.size → Beside s w → Beside (put_run b i xs s) w
beside-run b i xs s w t h k a p = area-run_kept a b i xs s (apart-inside a b tables_region p t) h ∙ k a p

-- so the rest of the shape is that of w
pub sound-beside : (s w : List ℕ) → Sound w → Beside s w → length s ≡ length w → Ranged s → Tabled s → Sound s
unfolding at
sound-beside s w h k l r t =
    record {
      long = rw l h.long;
      ranges = r;
      cells = λ v. rw (k map tt) (h.cells v);
      tables = t;
      floor_trail = rw (k sync_floor tt, k trail_length tt) h.floor_trail;
      floor_mirror = rw (k sync_floor tt, k mirror_length tt) h.floor_mirror;
      index = rw (k propagated tt, k trail_length tt) h.index;
    }

-- the starts and lengths of the candidate lists, and how many cells they have
abbrev pub cell_tables : Area
cell_tables = region list_starts union_cells

-- each disjunction lies in its area, the children of each node are smaller than it
abbrev pub Spanned : List ℕ → Type 0
Spanned s = (d : ℕ) → lies 0 most_disjunction_size (at disjunction_starts d s) (at disjunction_sizes d s) ≡ true

abbrev pub Falling : Area → List ℕ → Type 0
Falling a s = (k : ℕ) → at a k s ≤ k

-- the tables are sound if the lists are those of w and the rest is sound
pub tabled-of : (s w : List ℕ) → Tabled w → area cell_tables s ≡ area cell_tables w → Spanned s → Falling node_lefts s → Falling node_rights s → Tabled s
tabled-of s w h e d l r =
    record {
      together = rw (same single_cells tt 0, same union_cells tt 0) h.together;
      singles = λ t. rw (same single_cells tt 0, same single_starts tt t, same single_lengths tt t) (h.singles t);
      unions = λ t. rw (same union_cells tt 0, same union_starts tt t, same union_lengths tt t) (h.unions t);
      disjunctions = d;
      lefts = l;
      rights = r;
    }
  where
    same : (a : Area) → T (within a cell_tables) → (i : ℕ) → at a i s ≡ at a i w
    same a t i = at_same a cell_tables s w t e i

-- the same facts where an area is as it was
module _ (s w : List ℕ) where
  pub spanned_kept : area disjunction_starts s ≡ area disjunction_starts w → area disjunction_sizes s ≡ area disjunction_sizes w → Spanned w → Spanned s
  unfolding at
  spanned_kept e f h d = rw (e, f) (h d)

  pub falling_kept : (a : Area) → area a s ≡ area a w → Falling a w → Falling a s
  unfolding at
  falling_kept a e h k = rw e (h k)

-- so where all of them are as they were
pub tabled_kept : (s w : List ℕ) → Tabled w → area cell_tables s ≡ area cell_tables w → area disjunction_starts s ≡ area disjunction_starts w → area disjunction_sizes s ≡ area disjunction_sizes w → area node_lefts s ≡ area node_lefts w → area node_rights s ≡ area node_rights w → Tabled s
tabled_kept s w h e a b l r =
    tabled-of s w h e (spanned_kept s w a b h.disjunctions) (falling_kept s w node_lefts l h.lefts) (falling_kept s w node_rights r h.rights)

-- a word at most its place, written
pub falling_put : (a : Area) (i x : ℕ) (w : List ℕ) → i < a.size → Fits a w → x ≤ i → Falling a w → Falling a (put a i x w)
falling_put a i x w h f l g k =
    ⊎_elim
    (λ (e : k ≡ i). rw (e, at-put-same a i x w h f) l)
    (λ (e : k ≡ i → ⊥). rw (at-put_else a i k x w h e) (g k))
    (eq_or k i)

lies_as : (from to a n b m : ℕ) → b ≡ a → m ≡ n → lies from to a n ≡ true → lies from to b m ≡ true
lies_as from to a n b m e f h = rw (e, f) h

-- a start and a length that lie in the area, written
pub spanned_put : (i start n : ℕ) (w : List ℕ) → i < disjunction_starts.size → words ≤ length w → 0 < n → start + n ≤ most_disjunction_size → Spanned w → Spanned (put disjunction_sizes i n (put disjunction_starts i start w))
spanned_put i start n w h long some l g d =
    ⊎_elim
    (λ (e : d ≡ i).
    rw e
    (lies_as 0 most_disjunction_size start n _ _
    (at_kept disjunction_starts disjunction_sizes i i n s tt h ∙ at-put-same disjunction_starts i start w h (omega arith))
    (at-put-same disjunction_sizes i n s h (rw (length_put disjunction_starts i start w) (omega arith)))
    (rw (ne_eqb n 0 (omega arith), le-leb 0 start (omega arith)) (le-leb (start + n) most_disjunction_size l))))
    (λ (e : d ≡ i → ⊥).
    lies_as 0 most_disjunction_size (at disjunction_starts d w) (at disjunction_sizes d w) _ _
    (at_kept disjunction_starts disjunction_sizes i d n s tt h ∙ at-put_else disjunction_starts i d start w h e)
    (at-put_else disjunction_sizes i d n s h e ∙ at_kept disjunction_sizes disjunction_starts i d start w tt h)
    (g d))
    (eq_or d i)
  where
    s : List ℕ
    s = put disjunction_starts i start w

-- a test that says less
pub every_weaker : (p q : ℕ → Bool) → ((x : ℕ) → p x ≡ true → q x ≡ true) → (l : List ℕ) → every p l ≡ true → every q l ≡ true
unfolding every
every_weaker p q f [] e = refl
every_weaker p q f (x ∷ xs) e =
    let b = both (p x) (every p xs) e in
    rw (f x b.0) (every_weaker p q f xs b.1)
