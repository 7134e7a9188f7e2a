-- REGISTERING IS DOCUMENT 01'S STEP: the words that it leaves stand for the store that `registered` of the rules makes, and stay genuine.
-- Assumes nothing.
use mathlib.Core.Bool.{Bool, true, false, cond, not}
use mathlib.Core.List.{List}
use mathlib.Core.Logic.{⊎_elim, ◌≢◌}
use mathlib.Core.Path.{◌≡◌, refl, sym, ap, subst, ◌∙◌, fun_ext}
use Prim.Native.Nat.{ℕ, zero, suc, ◌+◌, ◌-◌, ◌≤◌, ◌<◌}
use native.Mathlib.Numerals.{add-one}
use native.Mathlib.Omega.{arith}
use borrow.Author.Tests.{ltb-true, lt-ltb, le-ltb, eq-eqb, ne_eqb}
use lib.Dec.{T, ltb, eqb}
use Rattle.clauses.proofs.Kept.{registered-sound, registered-outside}
use Rattle.clauses.proofs.Ranking.{rank_most}
use Rattle.clauses.proofs.ReadBack.{Shifted, shifted_each, parent_shifted, requirement_shifted, condition_shifted, id_shifted, mark_shifted, count-registered}
use Rattle.clauses.proofs.Registers.{left_either}
use Rattle.clauses.specs.Record.{parent_at, rank_of}
use Rattle.clauses.specs.Register.{known_condition, condition_word, Placed, queued_mark, registered, register_row}
use Rattle.meaning.proofs.Frames.{caches_region, lists-same, literals-same, cache-same, mirror-same, trail-same}
use Rattle.meaning.proofs.Records.{clause-word, clause-none}
use Rattle.meaning.specs.Standing.{mark_of, of_clause, store_of, trail_of}
use Rattle.meaning.specs.View.{literals_at}
use Rattle.promises.proofs.Genuine.{Genuine, Mapped, AllLoaded, mapped_frame, all-loaded_by_tables}
use Rattle.requirement.specs.Tables.{key_at}
use Rattle.rules.proofs.Ranks.{inserted_above, inserted-at, inserted_below}
use Rattle.rules.specs.Store.{Reached, behind, inserted, rank, registered as registers-in, registers, then}
use Rattle.rules.specs.Sync.{value}
use Rattle.rules.specs.Walk.{is_true}
use Rattle.store.proofs.AreaLaws.{at_same, within}
use Rattle.rules.proofs.Choice.{eq_or, lt_or}
use Rattle.store.specs.Area.{apart, area, at}
use Rattle.store.specs.declared.area.Area.{Area}
use Rattle.store.specs.Layout.{activities, clause_conditions, clause_count, clause_ids, clause_parents, clause_requirements, clauses_region, disjunction_sizes, hot_names, mirror_region, mode, queued, settings_region, sync_floor, tables_region, trail_region}
use Rattle.store.specs.Limits.{last_word, names}
use Rattle.store.specs.Shape.{Sound, sound_shape}
use Rattle.tables.specs.Loaded.{loaded}
use Rattle.trail.specs.Assignment.{assigned}
use Rattle.store.specs.Row.{left_sound, left_any}

-- the words' rank is the rules' rank
ranks_agree : (w : List ℕ) (parent n k : ℕ) → k ≤ at clause_count 0 w → behind (parent_at w) parent k n ≡ behind (of_clause clause_parents w) parent k n
unfolding behind
ranks_agree w parent n zero h = refl
ranks_agree w parent n (suc k) h = rw (clause-word clause_parents w k (omega arith), ranks_agree w parent n k (omega arith))

-- THE LAW OF THE FIVE AREAS: a word put in at a rank is a clause inserted there
clause-inserted : (a : Area) (r x : ℕ) (s w : List ℕ) → r ≤ at clause_count 0 w → at clause_count 0 s ≡ at clause_count 0 w + 1 → Shifted a r (at clause_count 0 w) x s w → (k : ℕ) → of_clause a s k ≡ inserted (of_clause a w) r x k
clause-inserted a r x s w low more h k =
    ⊎_elim
    (λ (l : at clause_count 0 w < k). clause-none a s k (omega arith) ∙ sym (above k (omega arith) ∙ clause-none a w (k - 1) (omega arith)))
    (λ (l : k ≤ at clause_count 0 w).
    clause-word a s k (omega arith) ∙ shifted_each (λ j y. y ≡ inserted (of_clause a w) r x j) a r (at clause_count 0 w) x s w h front here back k l)
    (lt_or (at clause_count 0 w) k)
  where
    above : (j : ℕ) → r < j → inserted (of_clause a w) r x j ≡ of_clause a w (j - 1)
    above j m = inserted_above (of_clause a w) r x j (le-ltb j r (omega arith)) (ne_eqb j r (omega arith))

    front : (j : ℕ) → j < r → at a j w ≡ inserted (of_clause a w) r x j
    front j m = sym (inserted_below (of_clause a w) r x j (lt-ltb j r m) ∙ clause-word a w j (omega arith))

    here : x ≡ inserted (of_clause a w) r x r
    here = sym (inserted-at (of_clause a w) r x r (le-ltb r r (omega arith)) (eq-eqb r r refl))

    back : (j : ℕ) → r ≤ j → j < at clause_count 0 w → at a j w ≡ inserted (of_clause a w) r x (j + 1)
    back j m n =
        let z : j + 1 - 1 ≡ j = omega arith in
        sym (above (j + 1) (omega arith) ∙ ap (of_clause a w) z ∙ clause-word a w j n)

-- what is made of each word is inserted where the word is
inserted-map : {A B : Type 0} (g : A → B) (f : ℕ → A) (i : ℕ) (x : A) (k : ℕ) → g (inserted f i x k) ≡ inserted (λ j. g (f j)) i (g x) k
inserted-map {A} {B} g f i x k = go (ltb k i) (eqb k i)
  where
    go : (b c : Bool) → g (cond b (f k) (cond c x (f (k - 1)))) ≡ cond b (g (f k)) (cond c (g x) (g (f (k - 1))))
    go true c = refl
    go false true = refl
    go false false = refl

-- the new mark is that the parent is true
mark_true : (w : List ℕ) (parent : ℕ) → eqb (queued_mark w parent) 1 ≡ is_true (assigned w parent)
unfolding queued_mark
mark_true w parent = go (is_true (assigned w parent))
  where
    go : (b : Bool) → eqb (cond b 1 0) 1 ≡ b
    go true = refl
    go false = refl

-- a known condition is stored as one that is loaded
known-loaded : (w : List ℕ) (condition : ℕ) → known_condition w condition ≡ true → condition_word condition ≢ 0 → at disjunction_sizes (condition_word condition - 1) w ≢ 0
unfolding known_condition condition_word loaded
known-loaded w condition e =
    ⊎_elim
    (λ (z : condition ≡ last_word). rw (eq-eqb condition last_word z) (λ n. absurd (n refl)))
    (λ (z : condition ≡ last_word → ⊥).
    let f : ltb 0 (at disjunction_sizes condition w) ≡ true = rw (ne_eqb condition last_word z) at e in
    let m : condition + 1 - 1 ≡ condition = omega arith in
    let l = ltb-true 0 (at disjunction_sizes condition w) f in
    rw (ne_eqb condition last_word z, m) (λ n q. omega arith))
    (eq_or condition last_word)

module _ (w : List ℕ) (parent key condition clause : ℕ) (p : Placed w parent key condition) (h : Sound w) where
  abbrev left : List ℕ
  left = registered w parent key condition clause

  abbrev place : ℕ
  place = rank (of_clause clause_parents w) parent (at clause_count 0 w)

  more : at clause_count 0 left ≡ at clause_count 0 w + 1
  more = count-registered w parent key condition clause p h

  at-rank : (a : Area) (x : ℕ) → Shifted a (rank_of w parent) (at clause_count 0 w) x left w → (k : ℕ) → of_clause a left k ≡ inserted (of_clause a w) place x k
  at-rank a x t k =
      clause-inserted a (rank_of w parent) x left w (rank_most w parent) more t k
      ∙ ap (λ r. inserted (of_clause a w) r x k) (ranks_agree w parent (at clause_count 0 w) (at clause_count 0 w) (omega arith))

  kept : (a : Area) → T (apart a clauses_region) → T (apart a queued) → area a left ≡ area a w
  kept a t q = registered-outside w parent key condition clause p a t q

  set_same : (a : Area) → T (within a settings_region) → (i : ℕ) → at a i left ≡ at a i w
  set_same a t i = at_same a settings_region left w t (kept settings_region tt tt) i

  conditions-inserted : (k : ℕ) → literals_at left (of_clause clause_conditions left k) ≡ inserted (λ j. literals_at w (of_clause clause_conditions w j)) place (literals_at w (condition_word condition)) k
  conditions-inserted k =
      literals-same left w (kept tables_region tt tt) (of_clause clause_conditions left k)
      ∙ ap (literals_at w) (at-rank clause_conditions (condition_word condition) (condition_shifted w parent key condition clause p h) k)
      ∙ inserted-map (literals_at w) (of_clause clause_conditions w) place (condition_word condition) k

  marks-inserted : Mapped w → (k : ℕ) → mark_of left k ≡ inserted (mark_of w) place (is_true (value (trail_of w) parent)) k
  unfolding mark_of
  marks-inserted m k =
      ap (λ x. eqb x 1) (at-rank queued (queued_mark w parent) (mark_shifted w parent key condition clause p h) k)
      ∙ inserted-map (λ x. eqb x 1) (of_clause queued w) place (queued_mark w parent) k
      ∙ ap (λ b. inserted (λ j. eqb (of_clause queued w j) 1) place b k) (mark_true w parent ∙ ap is_true (m.told parent))

  -- THE STEP: store for store
  pub register_is : Mapped w → store_of left ≡ registers-in (store_of w) parent key (literals_at w (condition_word condition)) clause
  register_is m =
      λ i.
      record {
        env =
            record {
              size = (more ∙ add-one (at clause_count 0 w)) i;
              parent = fun_ext (at-rank clause_parents parent (parent_shifted w parent key condition clause p h)) i;
              requirement = fun_ext (at-rank clause_requirements key (requirement_shifted w parent key condition clause p h)) i;
              condition = fun_ext conditions-inserted i;
              clause_id = fun_ext (at-rank clause_ids clause (id_shifted w parent key condition clause p h)) i;
              lists = fun_ext (lists-same left w (kept tables_region tt tt)) i;
              activity = fun_ext (set_same activities tt) i;
              names = names;
              hot = fun_ext (λ n. ap (λ x. eqb x 1) (set_same hot_names tt n)) i;
              standard = ap (λ x. eqb x 1) (set_same mode tt 0) i;
              rule = 1;
            };
        trail = trail-same left w (kept trail_region tt tt) i;
        mirror = mirror-same left w (kept mirror_region tt tt) i;
        floor = at_same sync_floor trail_region left w tt (kept trail_region tt tt) 0 i;
        queue = record { mark = fun_ext (marks-inserted m) i; cache = fun_ext (cache-same left w (kept caches_region tt tt)) i };
      }

  -- every condition is loaded, the new one too
  all-loaded-left : AllLoaded w → AllLoaded left
  all-loaded-left r =
      all-loaded_by_tables left w (kept tables_region tt tt) r
      (λ k l.
      shifted_each (λ j x. x ≢ 0 → at disjunction_sizes (x - 1) w ≢ 0) clause_conditions (rank_of w parent) (at clause_count 0 w) (condition_word condition) left w
      (condition_shifted w parent key condition clause p h)
      (λ j m. r.conditions j (omega (arith, rank_most w parent)))
      (known-loaded w condition p.known)
      (λ j m n. r.conditions j n)
      k (omega (arith, more)))

  registered-genuine : Genuine w → Genuine left
  registered-genuine g =
      record {
        sound = registered-sound w parent key condition clause p h;
        mapped = mapped_frame left w (kept trail_region tt tt) g.mapped;
        all_loaded = all-loaded-left g.all_loaded;
        reached = subst Reached (sym (register_is g.mapped)) (then g.reached (registers parent key (literals_at w (condition_word condition)) clause));
      }

-- A CALL THAT REGISTERS keeps words genuine; a refusal leaves them as they are
module _ (w : List ℕ) (parent kind requirement condition clause : ℕ) (g : Genuine w) where
  inner-genuine : Genuine (left_sound w (register_row w parent kind requirement condition clause))
  inner-genuine =
      left_either w parent kind requirement condition clause Genuine
      (λ p. registered-genuine w parent (key_at kind requirement) condition clause p g.sound g) g

  pub register_genuine : Genuine (left_any w (register_row w parent kind requirement condition clause))
  register_genuine = go (sound_shape w)
    where
      go : (b : Bool) → Genuine (cond (not b) w (left_sound w (register_row w parent kind requirement condition clause)))
      go true = inner-genuine
      go false = g
