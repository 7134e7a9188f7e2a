-- The loops of a sync and how its steps join. Assumes nothing.
use mathlib.Core.Bool.{Bool, true, false}
use mathlib.Core.List.{List}
use mathlib.Core.Logic.{⊎_elim}
use mathlib.Core.Path.{◌≡◌, refl, sym, ap, ◌∙◌}
use Prim.Native.Nat.{ℕ, ◌+◌, ◌-◌, ◌≤◌, ◌<◌}
use native.Mathlib.Omega.{arith}
use borrow.Author.Tests.{leb-true, le-leb, lt-leb}
use lib.Dec.{T}
use lib.ListN.{length, get_or, take, drop, length-take, length-drop}
use lib.Seq.{get_or-take, get_or-drop}
use Rattle.trail.specs.Assignment.{variable_at}
use Rattle.rules.specs.Numbers.{from}
use Rattle.meaning.specs.Standing.{cache_of}
use Rattle.rules.specs.Walk.{member}
use Rattle.store.proofs.AreaLaws.{length_area, length_put, area_kept}
use Rattle.rules.proofs.Choice.{lt_or}
use Rattle.store.proofs.Counting.{every-at}
use Rattle.store.specs.declared.area.Area.{Area}
use Rattle.store.specs.Area.{area, at, put, put_run, apart}
use Rattle.store.specs.Layout.{queued, cache_states, cache_candidates, cache_names, cache_counts, mirror, sync_floor, trail_length, trail_variables, map, clause_count, environment_region}
use Rattle.store.specs.Limits.{requirements, trail_room}
use Rattle.store.specs.Shape.{every, up_to, Sound}
use Rattle.sync.proofs.Kept.{few, woken-sound, spoiled-sound}
use Rattle.sync.proofs.Sweeping.{length_sweep, area-sweep, sound-sweep, at-sweep_else, sweep_idle, sweep_set, sweep_skip, sweep_on, sweep-same}
use Rattle.sync.proofs.Tests.{dirty-stays, cache_kept, wakes_kept, spoils_kept, wakes_alike, spoils_alike}
use Rattle.sync.specs.Sweep.{sweep}
use Rattle.sync.specs.Sync.{new_entries, touched_in, wakes_at, spoils_at, block, DirtyBlock, spoils_from, spoiled_from, woken_words, spoiled_words, swept_words, copied_words, mirrored_words, sync_left}
use Rattle.rules.proofs.Froms.{upto_next, upto_done}

-- the marks: so far the first k were swept
module _ (w W s : List ℕ) (n k : ℕ) (h : Sound w) (q : n ≡ at clause_count 0 w) (l : k ≤ n) (so : s ≡ sweep queued (wakes_at w W) 1 w k) where
  room : k ≤ queued.size
  room = omega (arith, few w h)

  pub waking_length : length s ≡ length w
  waking_length = ap length so ∙ length_sweep queued (wakes_at w W) 1 w k room

  pub waking_sound : Sound s
  waking_sound = rw so (sound-sweep queued (wakes_at w W) 1 w 1 tt tt (omega arith) h k room)

  waking-area : (b : Area) → T (apart b queued) → area b s ≡ area b w
  waking-area b t = ap (area b) so ∙ area-sweep queued (wakes_at w W) 1 w b t k room

  pub waking_count : at clause_count 0 s ≡ n
  unfolding at
  waking_count = rw (waking-area clause_count tt) (sym q)

  waking-cache : (key : ℕ) → cache_of s key ≡ cache_of w key
  unfolding at
  waking-cache key = cache_kept s w key (rw (waking-area cache_states tt)) (waking-area cache_candidates tt) (waking-area cache_names tt) (waking-area cache_counts tt)

  waking-test : wakes_at w W k ≡ wakes_at s W k
  waking-test = sym (wakes_kept s w (waking-area environment_region tt) (waking-area map tt) W waking-cache k)

  pub waking_set : (r : List ℕ) → r ≡ put queued k 1 s → wakes_at s W k ≡ true → r ≡ sweep queued (wakes_at w W) 1 w (k + 1)
  waking_set r e t = e ∙ sweep_set queued (wakes_at w W) 1 w s k so (waking-test ∙ t)

  pub waking_skip : (r : List ℕ) → r ≡ s → wakes_at s W k ≡ false → r ≡ sweep queued (wakes_at w W) 1 w (k + 1)
  waking_skip r e t = e ∙ sweep_skip queued (wakes_at w W) 1 w s k so (waking-test ∙ t)

  pub waking_done : n ≤ k → s ≡ woken_words w W
  unfolding woken_words
  waking_done m =
      let e : k ≡ at clause_count 0 w = omega arith in
      so ∙ ap (sweep queued (wakes_at w W) 1 w) e

-- the caches from a key on
module _ (w W s : List ℕ) (from key : ℕ) (h : Sound w) (l : key ≤ requirements) (so : s ≡ spoiled_from from w W key) where
  pub spoiling_length : length s ≡ length w
  spoiling_length = ap length so ∙ length_sweep cache_states (spoils_from from w W) 0 w key l

  pub spoiling_sound : Sound s
  spoiling_sound = rw so (sound-sweep cache_states (spoils_from from w W) 0 w 2 tt tt (omega arith) h key l)

  spoiling-area : (b : Area) → T (apart b cache_states) → area b s ≡ area b w
  spoiling-area b t = ap (area b) so ∙ area-sweep cache_states (spoils_from from w W) 0 w b t key l

  spoiling-cache : (j : ℕ) → key ≤ j → cache_of s j ≡ cache_of w j
  spoiling-cache j m =
      cache_kept s w j
      (ap (at cache_states j) so ∙ at-sweep_else cache_states (spoils_from from w W) 0 w j key l m)
      (spoiling-area cache_candidates tt) (spoiling-area cache_names tt) (spoiling-area cache_counts tt)

  spoiling-test : (j : ℕ) → key ≤ j → spoils_at s W j ≡ spoils_at w W j
  spoiling-test j m = spoils_kept s w (spoiling-area environment_region tt) (spoiling-area map tt) W j (spoiling-cache j m)

  module _ (m : from ≤ key) where
    here : (j : ℕ) → key ≤ j → (b : Bool) → spoils_at s W j ≡ b → spoils_from from w W j ≡ b
    here j n b t = rw (le-leb from j (omega arith)) (sym (spoiling-test j n) ∙ t)

    pub spoiling_set : (r : List ℕ) → r ≡ put cache_states key 0 s → spoils_at s W key ≡ true → r ≡ spoiled_from from w W (key + 1)
    spoiling_set r e t = e ∙ sweep_set cache_states (spoils_from from w W) 0 w s key so (here key (omega arith) true t)

    pub spoiling_skip : (r : List ℕ) → r ≡ s → spoils_at s W key ≡ false → r ≡ spoiled_from from w W (key + 1)
    spoiling_skip r e t = e ∙ sweep_skip cache_states (spoils_from from w W) 0 w s key so (here key (omega arith) false t)

    -- a block more, by what the words that were left say of it
    pub spoiling_block : (r : List ℕ) → r ≡ spoiled_from key s W (key + block) → r ≡ spoiled_from from w W (key + block)
    spoiling_block r e =
        e
        ∙ sweep_on cache_states (spoils_from from w W) (spoils_from key s W) 0 w s key so
        (λ i n. rw (lt-leb key i n))
        (λ i n. rw (le-leb key i n) (sym (here i n (spoils_at s W i) refl)))
        block

  pub spoiling_end : (end : ℕ) → key ≤ end → end ≤ key → s ≡ spoiled_from from w W end
  spoiling_end end m n =
      let e : key ≡ end = omega arith in
      so ∙ ap (spoiled_from from w W) e

  pub spoiling_done : from ≡ 0 → requirements ≤ key → s ≡ spoiled_words w W
  unfolding spoiled_words
  spoiling_done z m =
      spoiling_end requirements l m
      ∙ sweep-same cache_states (spoils_from from w W) (spoils_at w W) 0 w requirements (λ i. rw (le-leb from i (omega arith)))

-- before the first of them, and where all of a block are dirty, nothing changes
module _ (w W : List ℕ) (from : ℕ) where
  pub spoiling_none : w ≡ spoiled_from from w W from
  spoiling_none = sweep_idle cache_states (spoils_from from w W) 0 w from (λ i n. rw (lt-leb from i n))

  pub dirty-block : DirtyBlock w from → w ≡ spoiled_from from w W (from + block)
  dirty-block d =
      sweep_idle cache_states (spoils_from from w W) 0 w (from + block)
      (λ i n.
      ⊎_elim
      (λ (m : i < from). rw (lt-leb from i m))
      (λ (m : from ≤ i). rw (le-leb from i m) (sym (dirty-stays w i _ refl W (d i m n))))
      (lt_or i from))

-- a ceiling of 0 says that a block is dirty
pub ceiling_dirty : (w states : List ℕ) (from top : ℕ) → states ≡ area cache_states w → every (up_to top) (take (from + block - from) (drop from states)) ≡ true → Sound w → from + block ≤ requirements → top ≡ 0 → DirtyBlock w from
unfolding at
ceiling_dirty w states from top is e h l z key m n =
    let i : ℕ = key - from in
    let few : i < from + block - from = omega arith in
    let size : length states ≡ requirements = ap length is ∙ length_area cache_states w (omega (arith, h.long)) in
    let inside : i < length (take (from + block - from) (drop from states)) = omega (arith, length-take (from + block - from) (drop from states), length-drop from states) in
    let low : get_or (take (from + block - from) (drop from states)) i 0 ≤ top = leb-true _ _ (every-at (up_to top) (take (from + block - from) (drop from states)) e i inside) in
    let there : from + i ≡ key = omega arith in
    let same : get_or (take (from + block - from) (drop from states)) i 0 ≡ at cache_states key w = get_or-take (from + block - from) (drop from states) i 0 few ∙ get_or-drop from states i 0 ∙ ap (λ k. get_or states k 0) there ∙ ap (λ xs. get_or xs key 0) is in
    omega (arith, low, same)

-- the copy: what is left to copy makes the whole copy
pub copy_start : (w : List ℕ) (floor n : ℕ) → floor ≡ at sync_floor 0 w → n ≡ at trail_length 0 w → copied_words w ≡ put_run mirror floor (from (variable_at w) floor (n - floor)) w
unfolding copied_words new_entries
copy_start w floor n p q = rw (p, q)

module _ (w s : List ℕ) (i n : ℕ) (long : length s ≡ length w) (kept : area trail_variables s ≡ area trail_variables w) (so : copied_words w ≡ put_run mirror i (from (variable_at w) i (n - i)) s) where
  module _ (x : ℕ) (r : List ℕ) (is : x ≡ at trail_variables i s) (e : r ≡ put mirror i x s) where
    pub copy_long : length r ≡ length w
    copy_long = ap length e ∙ length_put mirror i x s ∙ long

    pub copy_kept : i < trail_room → area trail_variables r ≡ area trail_variables w
    copy_kept l = ap (area trail_variables) e ∙ area_kept trail_variables mirror i x s tt l ∙ kept

    pub copy_turn : i < n → copied_words w ≡ put_run mirror (i + 1) (from (variable_at w) (i + 1) (n - (i + 1))) r
    unfolding put_run at
    copy_turn l =
        let z : x ≡ at trail_variables i w = is ∙ rw kept in
        so ∙ rw (upto_next (λ k. at trail_variables k w) i n l, put_run, ← z, e)

  pub copy_done : n ≤ i → s ≡ copied_words w
  unfolding put_run
  copy_done l = sym (so ∙ rw (upto_done (λ k. at trail_variables k w) i n l))

-- the steps of a sync, one after the other
module _ (w T s : List ℕ) (h : Sound w) (e : s ≡ woken_words w T) where
  pub first-sound : Sound s
  first-sound = rw e (woken-sound w T h)

  module _ (r : List ℕ) (f : r ≡ spoiled_words s T) where
    pub second-sound : Sound r
    second-sound = rw f (spoiled-sound s T first-sound)

    pub sync_made : (u : List ℕ) → ((v : ℕ) → member v T ≡ member v (touched_in w)) → u ≡ mirrored_words r → u ≡ sync_left w
    unfolding sync_left swept_words woken_words spoiled_words
    sync_made u same g = g ∙ ap mirrored_words (f ∙ ap (λ (v : List ℕ). spoiled_words v T) (e ∙ marks) ∙ caches)
      where
        marks : woken_words w T ≡ woken_words w (touched_in w)
        marks = sweep-same queued (wakes_at w T) (wakes_at w (touched_in w)) 1 w (at clause_count 0 w) (wakes_alike T (touched_in w) same w)

        caches : spoiled_words (woken_words w (touched_in w)) T ≡ spoiled_words (woken_words w (touched_in w)) (touched_in w)
        caches =
            sweep-same cache_states (spoils_at (woken_words w (touched_in w)) T) (spoils_at (woken_words w (touched_in w)) (touched_in w)) 0 (woken_words w (touched_in w)) requirements
            (spoils_alike T (touched_in w) same (woken_words w (touched_in w)))

-- for the three loops
pub ruleset waking = (waking_length, waking_count, waking_set, waking_skip)

pub ruleset spoiling = (spoiling_none, spoiling_length, spoiling_sound, spoiling_set, spoiling_skip, spoiling_end)

pub ruleset copying = (copy_start, copy_long, copy_done)
