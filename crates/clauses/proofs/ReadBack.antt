-- WHAT IS REGISTERED IS READ BACK, and the clauses behind it are one further on. Assumes nothing.
use mathlib.Core.List.{List, [], ◌∷◌, ◌++◌}
use mathlib.Core.Logic.{⊎_elim}
use mathlib.Core.Path.{◌≡◌, refl, sym, ap, subst, ◌∙◌}
use Prim.Native.Nat.{ℕ, suc, ◌+◌, ◌-◌, ◌≤◌, ◌<◌}
use native.Mathlib.Omega.{arith}
use lib.Dec.{T, leb, leb→le}
use lib.ListN.{get_or, take, drop}
use Rattle.clauses.proofs.InsertLaws.{inserted_all, Room, length_inserted-all, area-inserted-all}
use Rattle.clauses.proofs.Kept.{rows, sums, sums_inside, registered_rows, rows_room}
use Rattle.clauses.specs.Record.{clause_at, rank_of}
use Rattle.clauses.specs.Register.{condition_word, Placed, queued_mark, clause_of, registered}
use Rattle.store.proofs.AreaLaws.{area-puts, at-written}
use Rattle.rules.proofs.Choice.{both, true_of, eq_or, lt_or}
use Rattle.store.proofs.RankLaws.{length_inserted, area-inserted_kept, at-inserted-before, at-inserted, at-inserted-behind}
use Rattle.store.specs.declared.area.Area.{Area}
use Rattle.store.specs.Area.{area, at, Write, write, Fits, apart, clear_of}
use Rattle.store.specs.Layout.{queued, clause_count, clause_parents, clause_requirements, clause_conditions, clause_ids, words}
use Rattle.store.specs.Ranks.{inserted}
use Rattle.store.specs.Shape.{Sound}

-- an area of s is that of w with x put in at a rank
pub record Shifted (a : Area) (rank count x : ℕ) (s w : List ℕ) : Type 0 where
  pub here : at a rank s ≡ x
  pub before : (j : ℕ) → j < rank → at a j s ≡ at a j w
  pub behind : (j : ℕ) → rank ≤ j → j < count → at a (j + 1) s ≡ at a j w

shifted_in : (a : Area) (rank count x : ℕ) (s w : List ℕ) → rank ≤ count → count < a.size → Fits a s → area a s ≡ area a w → Shifted a rank count x (inserted a rank count x s) w
unfolding at
shifted_in a rank count x s w h l f e =
    record {
      here = at-inserted a rank count x s h l f;
      before = λ j m. at-inserted-before a rank count x s h l j m ∙ ap (λ z. get_or z j 0) e;
      behind = λ j m n. at-inserted-behind a rank count x s h l f j m n ∙ ap (λ z. get_or z j 0) e;
    }

shifted_kept : (a : Area) (rank count x : ℕ) (r s w : List ℕ) → area a r ≡ area a s → Shifted a rank count x s w → Shifted a rank count x r w
unfolding at
shifted_kept a rank count x r s w e h =
    record {
      here = ap (λ z. get_or z rank 0) e ∙ h.here;
      before = λ j m. ap (λ z. get_or z j 0) e ∙ h.before j m;
      behind = λ j m n. ap (λ z. get_or z (j + 1) 0) e ∙ h.behind j m n;
    }

-- what is so of the word put in and of those that stood there, each at its new place, is so of all of them
pub shifted_each : (P : ℕ → ℕ → Type 0) (a : Area) (rank count x : ℕ) (s w : List ℕ) → Shifted a rank count x s w → ((j : ℕ) → j < rank → P j (at a j w)) → P rank x → ((j : ℕ) → rank ≤ j → j < count → P (j + 1) (at a j w)) → (k : ℕ) → k ≤ count → P k (at a k s)
shifted_each P a rank count x s w h front here back k l =
    ⊎_elim
    (λ (m : k < rank). subst (P k) (sym (h.before k m)) (front k m))
    (λ (m : rank ≤ k).
    ⊎_elim
    (λ (e : k ≡ rank). subst (λ j. P j (at a j s)) (sym e) (subst (P rank) (sym h.here) here))
    (λ (e : k ≡ rank → ⊥).
    let z : k - 1 + 1 ≡ k = omega arith in
    subst (λ j. P j (at a j s)) z (subst (P (k - 1 + 1)) (sym (h.behind (k - 1) (omega arith) (omega arith))) (back (k - 1) (omega arith) (omega arith))))
    (eq_or k rank))
    (lt_or k rank)

-- one insertion of a row of them
shifted_among : (a : Area) (rank count x : ℕ) (ys zs : List Write) (s w : List ℕ) → area a s ≡ area a w → Fits a s → T (clear_of a ys) → T (clear_of a zs) → Room count (ys ++ (write a rank x ∷ zs)) → Shifted a rank count x (inserted_all count (ys ++ (write a rank x ∷ zs)) s) w
shifted_among a rank count x [] zs s w e f t u r =
    shifted_kept a rank count x _ (inserted a rank count x s) w (area-inserted-all a count zs (inserted a rank count x s) u r.1)
    (shifted_in a rank count x s w r.0.0 r.0.1 f e)
shifted_among a rank count x (y ∷ ys) zs s w e f t u r =
    let b = both (apart a y.to) (clear_of a ys) (true_of (clear_of a (y ∷ ys)) t) in
    shifted_among a rank count x ys zs (inserted y.to y.place count y.word s) w
    (area-inserted_kept y.to y.place count y.word s r.0.0 r.0.1 a (rw b.0 tt) ∙ e)
    (rw (length_inserted y.to y.place count y.word s r.0.0 r.0.1) f)
    (rw b.1 tt) u r.1

module _ (w : List ℕ) (parent key condition clause : ℕ) (p : Placed w parent key condition) (h : Sound w) where
  abbrev left : List ℕ
  left = registered w parent key condition clause

  abbrev all : List Write
  all = rows w parent key condition clause

  -- row i of those that registering puts in
  shifted : (i : ℕ) (a : Area) (x : ℕ) → all ≡ take i all ++ (write a (rank_of w parent) x ∷ drop (suc i) all) → T (clear_of a (take i all)) → T (clear_of a (drop (suc i) all)) → T (clear_of a (sums w parent key condition clause)) → T (leb (a.base + a.size) words) → Shifted a (rank_of w parent) (at clause_count 0 w) x left w
  shifted i a x e t u v f =
      let n = at clause_count 0 w in
      shifted_kept a (rank_of w parent) n x left (inserted_all n (take i all ++ (write a (rank_of w parent) x ∷ drop (suc i) all)) w) w
      (ap (area a) (registered_rows w parent key condition clause)
      ∙ area-puts a (sums w parent key condition clause) (inserted_all n all w) v (sums_inside w parent key condition clause)
      ∙ ap (λ (xs : List Write). area a (inserted_all n xs w)) e)
      (shifted_among a (rank_of w parent) n x (take i all) (drop (suc i) all) w w refl (omega (arith, h.long, leb→le (a.base + a.size) words f)) t u
      (subst (λ (xs : List Write). Room n xs) e (rows_room w parent key condition clause p)))

  pub parent_shifted : Shifted clause_parents (rank_of w parent) (at clause_count 0 w) parent left w
  parent_shifted = shifted 0 clause_parents parent refl tt tt tt tt

  pub requirement_shifted : Shifted clause_requirements (rank_of w parent) (at clause_count 0 w) key left w
  requirement_shifted = shifted 1 clause_requirements key refl tt tt tt tt

  pub condition_shifted : Shifted clause_conditions (rank_of w parent) (at clause_count 0 w) (condition_word condition) left w
  condition_shifted = shifted 2 clause_conditions (condition_word condition) refl tt tt tt tt

  pub id_shifted : Shifted clause_ids (rank_of w parent) (at clause_count 0 w) clause left w
  id_shifted = shifted 3 clause_ids clause refl tt tt tt tt

  pub mark_shifted : Shifted queued (rank_of w parent) (at clause_count 0 w) (queued_mark w parent) left w
  mark_shifted = shifted 4 queued (queued_mark w parent) refl tt tt tt tt

  -- there is one clause more
  pub count-registered : at clause_count 0 left ≡ at clause_count 0 w + 1
  count-registered =
      let n = at clause_count 0 w in
      ap (at clause_count 0) (registered_rows w parent key condition clause)
      ∙ at-written clause_count 0 (n + 1) (drop 1 (sums w parent key condition clause)) (inserted_all n all w)
      (omega (arith, h.long, length_inserted-all n all w (rows_room w parent key condition clause p)))
      (omega arith) tt (sums_inside w parent key condition clause).1

  -- the clause at its rank, those before it and those behind it
  pub clause-here : clause_at left (rank_of w parent) ≡ clause_of parent key condition clause
  unfolding clause_at
  clause-here = rw (parent_shifted.here, requirement_shifted.here, condition_shifted.here, id_shifted.here)

  pub clause-before : (j : ℕ) → j < rank_of w parent → clause_at left j ≡ clause_at w j
  unfolding clause_at
  clause-before j m = rw (parent_shifted.before j m, requirement_shifted.before j m, condition_shifted.before j m, id_shifted.before j m)

  pub clause-behind : (j : ℕ) → rank_of w parent ≤ j → j < at clause_count 0 w → clause_at left (j + 1) ≡ clause_at w j
  unfolding clause_at
  clause-behind j m n = rw (parent_shifted.behind j m n, requirement_shifted.behind j m n, condition_shifted.behind j m n, id_shifted.behind j m n)
