-- THE TRAIL'S CALLS KEEP WORDS GENUINE: each is a step of document 01's store. Assumes nothing.
use mathlib.Core.Bool.{Bool, true, false, cond}
use mathlib.Core.List.{List, [], ◌∷◌, ◌++◌}
use mathlib.Core.Logic.{◌≢◌}
use mathlib.Core.Path.{◌≡◌, refl, ap, sym, subst, ◌∙◌}
use Prim.Native.Nat.{ℕ, ◌+◌, ◌-◌, ◌≤◌, ◌<◌, min}
use native.Mathlib.Omega.{arith}
use borrow.Author.Tests.{le-leb, lt-leb, ne_eqb}
use lib.Dec.{T, leb, eqb}
use lib.ListN.{length, take}
use Rattle.meaning.proofs.Frames.{assigned-same, entry_by, env-same, mirror-same, queue-same, trail_by}
use Rattle.meaning.specs.Standing.{entry_at, store_of, trail_of}
use Rattle.promises.proofs.Genuine.{Genuine, Mapped, mapped-same, all-loaded_frame}
use Rattle.promises.proofs.Trails.{mapped-none, mapped-popped, mapped-pushed, trail-cut, trail-none, trail-pushed}
use Rattle.rules.specs.Store.{Reached, Step, Store, push, same, then, undo}
use Rattle.rules.specs.Sync.{Entry, value_of}
use Rattle.store.proofs.AreaLaws.{apart-inside, area_kept, at_kept, at-puts_else, at-puts-here, at_same}
use Rattle.store.specs.Area.{Inside, Write, apart, area, at, put, write}
use Rattle.store.specs.declared.area.Area.{Area}
use Rattle.store.specs.Layout.{clause_count, environment_region, map, mirror_region, propagated, queue_region, sync_floor, trail_clauses, trail_length, trail_region, trail_values, trail_variables, words}
use Rattle.store.specs.Limits.{last_level}
use Rattle.store.specs.Shape.{Sound}
use Rattle.trail.proofs.Assigning.{Fitting}
use Rattle.trail.proofs.Kept.{assign_either, assign_public, cleared-count, cleared-floor, cleared-map, cleared-outside, cleared-sound, moved-sound, next_either, next_public, popped-floor, popped-outside, popped-sound, pushed-count, pushed_kept, pushed-outside, pushed-sound, undo_last_either, undo_last_public, undo_until_either, undo_until_public}
use Rattle.trail.proofs.Popping.{entered, popped-count, popped_kept}
use Rattle.trail.specs.Assign.{pushed, assign_row}
use Rattle.trail.specs.Cell.{cell_of, cell_side, cell_value}
use Rattle.trail.specs.Entries.{Entered, entries}
use Rattle.trail.specs.UndoLast.{popped, undo_last_row}
use Rattle.trail.specs.UndoUntil.{cleared, undo_until_row}
use Rattle.rules.specs.declared.Value.TheVariants.{False, True, Undecided}
use Rattle.trail.specs.Assignment.{assigned}
use Rattle.trail.specs.Next.{next_row}
use Rattle.store.specs.Row.{left_any}

-- a store with another trail and floor
abbrev trailed : Store → List Entry → ℕ → Store
trailed t trail floor = record { env = t.env; trail = trail; mirror = t.mirror; floor = floor; queue = t.queue }

-- A CALL THAT WRITES THE TRAIL'S REGION ALONE leaves words that differ in trail and floor
module _ (s w : List ℕ) (out : (a : Area) → T (apart a trail_region) → area a s ≡ area a w) where
  store-trailed : (trail : List Entry) (floor : ℕ) → trail_of s ≡ trail → at sync_floor 0 s ≡ floor → store_of s ≡ trailed (store_of w) trail floor
  store-trailed trail floor e f =
      λ i.
      record {
        env = env-same s w (out environment_region tt) i;
        trail = e i;
        mirror = mirror-same s w (out mirror_region tt) i;
        floor = f i;
        queue = queue-same s w (out queue_region tt) (at_same clause_count environment_region s w tt (out environment_region tt) 0) i;
      }

  trailed-genuine : (trail : List Entry) (floor : ℕ) → trail_of s ≡ trail → at sync_floor 0 s ≡ floor → Step (store_of w) (trailed (store_of w) trail floor) → Sound s → Mapped s → Genuine w → Genuine s
  trailed-genuine trail floor e f step sound mapped g =
      record {
        sound = sound;
        mapped = mapped;
        all_loaded = all-loaded_frame s w (out environment_region tt) g.all_loaded;
        reached = subst Reached (sym (store-trailed trail floor e f)) (then g.reached step);
      }

-- a cell as a value
cell_value_lem : (value level : ℕ) → 0 < level → level ≤ last_level → cell_value (cell_of value level) ≡ value_of (eqb value 1)
unfolding cell_of cell_value
cell_value_lem value level a b = go (eqb value 1)
  where
    go : (t : Bool) → cell_value (cond t level (4294967296 - level)) ≡ value_of t
    go true = rw (ne_eqb level 0 (omega arith), le-leb level last_level b)
    go false = rw (ne_eqb (4294967296 - level) 0 (omega arith), lt-leb (4294967296 - level) last_level (omega arith))

side_free : (x : ℕ) → cell_side x ≡ 2 → cell_value x ≡ Undecided
unfolding cell_side cell_value
side_free x e = go (eqb x 0) (leb x last_level) e
  where
    go : (a b : Bool) → ◌≡◌ {A = ℕ} (cond a 2 (cond b 1 0)) 2 → cond a Undecided (cond b True False) ≡ Undecided
    go true b e = refl
    go false true e = absurd (omega arith)
    go false false e = absurd (omega arith)

-- ASSIGNING
module _ (w : List ℕ) (variable value level clause : ℕ) (f : Fitting w variable value level) where
  abbrev after : List ℕ
  after = pushed w variable value level clause

  abbrev to_map : Write
  to_map = write map variable (cell_of value level)

  abbrev to_variables : Write
  to_variables = write trail_variables (entries w) variable

  abbrev to_values : Write
  to_values = write trail_values (entries w) value

  abbrev to_rest : List Write
  to_rest = write trail_clauses (entries w) clause ∷ write trail_length 0 (entries w + 1) ∷ []

  rest_in : Inside to_rest
  rest_in = (f.room, (omega arith, tt))

  -- the map has the variable's new cell
  pushed-cell : words ≤ length w → at map variable after ≡ cell_of value level
  unfolding pushed
  pushed-cell long = at-puts-here map variable (cell_of value level) [] (to_variables ∷ to_values ∷ to_rest) w (omega (arith, long)) f.variable< tt (f.room, (f.room, rest_in))

  pushed-cells : (v : ℕ) → v ≢ variable → at map v after ≡ at map v w
  unfolding pushed
  pushed-cells v d = at-puts_else map variable v (cell_of value level) [] (to_variables ∷ to_values ∷ to_rest) w d f.variable< tt tt tt (f.room, (f.room, rest_in))

  -- the trail has its entry behind those it had
  pushed-entry : words ≤ length w → entry_at after (entries w) ≡ record { variable = variable; positive = eqb value 1 }
  unfolding pushed entry_at
  pushed-entry long =
      let p = at-puts-here trail_variables (entries w) variable (to_map ∷ []) (to_values ∷ to_rest) w (omega (arith, long)) f.room tt (f.room, rest_in) in
      let q = at-puts-here trail_values (entries w) value (to_map ∷ to_variables ∷ []) to_rest w (omega (arith, long)) f.room tt rest_in in
      λ i. record { variable = p i; positive = eqb (q i) 1 }

  pub pushed-entries : (k : ℕ) → k < entries w → entry_at after k ≡ entry_at w k
  unfolding pushed
  pushed-entries k l =
      let p = at-puts_else trail_variables (entries w) k variable (to_map ∷ []) (to_values ∷ to_rest) w (omega arith) f.room tt (f.variable<, tt) tt (f.room, rest_in) in
      let q = at-puts_else trail_values (entries w) k value (to_map ∷ to_variables ∷ []) to_rest w (omega arith) f.room tt (f.variable<, (f.room, tt)) tt rest_in in
      entry_by after w k p q

  pushed-genuine : Genuine w → Genuine (pushed w variable value level clause)
  unfolding assigned
  pushed-genuine g =
      let long = g.sound.long in
      let d : Entry = record { variable = variable; positive = eqb value 1 } in
      let count = pushed-count w variable value level clause f long in
      let e = trail-pushed after w count pushed-entries ∙ ap (λ (x : Entry). trail_of w ++ (x ∷ [])) (pushed-entry long) in
      trailed-genuine after w (pushed-outside w variable value level clause f) (trail_of w ++ (d ∷ [])) (at sync_floor 0 w) e
      (pushed_kept w variable value level clause f sync_floor 0 tt) (push d) (pushed-sound w variable value level clause f g.sound)
      (mapped-pushed after w g.mapped d e (side_free (at map variable w) f.free)
      (ap cell_value (pushed-cell long) ∙ cell_value_lem value level f.some f.level≤)
      (λ v n. ap cell_value (pushed-cells v n)))
      g

-- for all arguments: a refusal and "already" leave the words
pub assign_genuine : (w : List ℕ) (variable value level clause : ℕ) → Genuine w → Genuine (left_any w (assign_row w variable value level clause))
assign_genuine w variable value level clause g =
    rw (assign_public w g.sound variable value level clause).1
    (assign_either Genuine w g variable value level clause (λ f. pushed-genuine w variable value level clause f g))

-- TAKING BACK
pub popped-entries : (w : List ℕ) → Sound w → (k : ℕ) → entry_at (popped w) k ≡ entry_at w k
popped-entries w h k =
    let fit = entered w h in
    entry_by (popped w) w k (popped_kept w fit trail_variables k tt) (popped_kept w fit trail_values k tt)

module _ (w : List ℕ) (g : Genuine w) where
  fit : Entered w
  fit = entered w g.sound

  abbrev last : ℕ
  last = at trail_variables (entries w - 1) w

  abbrev to_counts : List Write
  to_counts = write trail_length 0 (entries w - 1) ∷ write propagated 0 (entries w - 1) ∷ write sync_floor 0 (min (at sync_floor 0 w) (entries w - 1)) ∷ []

  -- the popped variable's cell is zero
  popped-cell : at map last (popped w) ≡ 0
  unfolding popped
  popped-cell = at-puts-here map last 0 [] to_counts w (omega (arith, fit.long)) (fit.named (entries w - 1)) tt (omega arith, (omega arith, (omega arith, tt)))

  popped-cells : (v : ℕ) → v ≢ last → at map v (popped w) ≡ at map v w
  unfolding popped
  popped-cells v d = at-puts_else map last v 0 [] to_counts w d (fit.named (entries w - 1)) tt tt tt (omega arith, (omega arith, (omega arith, tt)))

  popped-genuine : 0 < entries w → Genuine (popped w)
  unfolding assigned cell_value
  popped-genuine some =
      let n : ℕ = entries w - 1 in
      let e = trail-cut (popped w) w n (popped-count w fit) (omega arith) (λ k l. popped-entries w g.sound k) in
      trailed-genuine (popped w) w (popped-outside w g.sound) (take n (trail_of w)) (min (at sync_floor 0 w) n) e
      (popped-floor w g.sound) (undo n) (popped-sound w g.sound)
      (mapped-popped (popped w) w g.mapped n (omega arith) e (ap cell_value popped-cell) (λ v d. ap cell_value (popped-cells v d)))
      g

  cleared-genuine : Genuine (cleared w)
  cleared-genuine =
      let h = g.sound in
      trailed-genuine (cleared w) w (cleared-outside w h) [] (min (at sync_floor 0 w) 0) (trail-none (cleared w) (cleared-count w h))
      (cleared-floor w h ∙ omega arith) (undo 0) (cleared-sound w h) (mapped-none (cleared w) (cleared-count w h) (cleared-map w h)) g

pub undo_last_genuine : (w : List ℕ) → Genuine w → Genuine (left_any w (undo_last_row w))
undo_last_genuine w g = rw (undo_last_public w g.sound).1 (undo_last_either Genuine w g (λ l. popped-genuine w g (omega arith)))

pub undo_until_genuine : (w : List ℕ) (level : ℕ) → Genuine w → Genuine (left_any w (undo_until_row w level))
undo_until_genuine w level g =
    rw (undo_until_public w g.sound level).1
    (undo_until_either Genuine w g level g.sound (cleared-genuine w g) (λ s h some k. popped-genuine s k some))

-- THE NEXT ENTRY: only the propagation index moves, and document 01's store has none
module _ (w : List ℕ) (x : ℕ) (g : Genuine w) where
  abbrev moved : List ℕ
  moved = put propagated 0 x w

  moved-kept : (a : Area) (k : ℕ) → T (apart a propagated) → at a k moved ≡ at a k w
  moved-kept a k t = at_kept a propagated 0 k x w t (omega arith)

  moved-genuine : Sound moved → Genuine moved
  moved-genuine h =
      let e = trail_by moved w (moved-kept trail_length 0 tt) (λ k. entry_by moved w k (moved-kept trail_variables k tt) (moved-kept trail_values k tt)) in
      trailed-genuine moved w (λ a t. area_kept a propagated 0 x w (apart-inside a propagated trail_region t tt) (omega arith)) (trail_of w) (at sync_floor 0 w) e
      (moved-kept sync_floor 0 tt) same h
      (mapped-same moved w (assigned-same moved w (area_kept map propagated 0 x w tt (omega arith))) e g.mapped) g

pub next_genuine : (w : List ℕ) → Genuine w → Genuine (left_any w (next_row w))
next_genuine w g =
    rw (next_public w g.sound).1 (next_either Genuine w g (λ l. moved-genuine w (at propagated 0 w + 1) g (moved-sound w g.sound l)))
