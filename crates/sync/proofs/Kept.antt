-- SYNC KEEPS A STORE SOUND, and changes nothing outside the queue, the mirror and the floor. Assumes nothing.
use mathlib.Core.Bool.{true}
use mathlib.Core.List.{List}
use mathlib.Core.Path.{◌≡◌, ◌∙◌}
use Prim.Native.Nat.{ℕ, ◌+◌, ◌-◌, ◌≤◌}
use native.Mathlib.Omega.{arith}
use lib.Dec.{T}
use lib.ListN.{length}
use Rattle.store.proofs.AreaLaws.{length_put, at-put-same, area_kept, apart-inside}
use Rattle.store.proofs.Runs.{length_run, area-run_kept, ranged-run}
use Rattle.store.proofs.Soundness.{ranged-put, tabled-same}
use Rattle.store.specs.declared.area.Area.{Area}
use Rattle.store.specs.Area.{area, at, put, apart}
use Rattle.store.specs.Layout.{queued, cache_states, mirror, mirror_length, sync_floor, propagated, trail_length, trail_variables, map, clause_count, queue_region, mirror_region, tables_region}
use Rattle.store.specs.Limits.{clauses, requirements, trail_room, last_variable}
use Rattle.store.specs.Shape.{every, up_to, Sound}
use Rattle.sync.proofs.Sweeping.{length_sweep, area-sweep, sound-sweep}
use Rattle.sync.specs.Sync.{new_entries, touched_in, wakes_at, spoils_at, woken_words, spoiled_words, swept_words, copied_words, mirrored_words, sync_left}
use Rattle.rules.proofs.Froms.{length_from}
use Rattle.meaning.proofs.Lists.{every-from}

-- the marks
pub few : (w : List ℕ) → Sound w → at clause_count 0 w ≤ clauses
few w h = h.ranges clause_count clauses tt 0

module _ (w W : List ℕ) (h : Sound w) where
  pub woken_length : length (woken_words w W) ≡ length w
  unfolding woken_words
  woken_length = length_sweep queued (wakes_at w W) 1 w (at clause_count 0 w) (few w h)

  pub woken-area : (b : Area) → T (apart b queued) → area b (woken_words w W) ≡ area b w
  unfolding woken_words
  woken-area b t = area-sweep queued (wakes_at w W) 1 w b t (at clause_count 0 w) (few w h)

  pub woken-sound : Sound (woken_words w W)
  unfolding woken_words
  woken-sound = sound-sweep queued (wakes_at w W) 1 w 1 tt tt (omega arith) h (at clause_count 0 w) (few w h)

-- the caches
module _ (w W : List ℕ) where
  pub spoiled-area : (b : Area) → T (apart b cache_states) → area b (spoiled_words w W) ≡ area b w
  unfolding spoiled_words
  spoiled-area b t = area-sweep cache_states (spoils_at w W) 0 w b t requirements (omega arith)

  pub spoiled-sound : Sound w → Sound (spoiled_words w W)
  unfolding spoiled_words
  spoiled-sound h = sound-sweep cache_states (spoils_at w W) 0 w 2 tt tt (omega arith) h requirements (omega arith)

-- both
module _ (w W : List ℕ) (h : Sound w) where
  pub swept-area : (b : Area) → T (apart b queue_region) → area b (swept_words w W) ≡ area b w
  unfolding swept_words
  swept-area b t = spoiled-area (woken_words w W) W b (apart-inside b cache_states queue_region t tt) ∙ woken-area w W h b (apart-inside b queued queue_region t tt)

  pub swept-sound : Sound (swept_words w W)
  unfolding swept_words
  swept-sound = spoiled-sound (woken_words w W) W (woken-sound w W h)

-- the mirror
module _ (w : List ℕ) (h : Sound w) where
  pub short : at trail_length 0 w ≤ trail_room
  short = h.ranges trail_length trail_room tt 0

  pub length_new : length (new_entries w) ≡ at trail_length 0 w - at sync_floor 0 w
  unfolding new_entries
  length_new = length_from (λ k. at trail_variables k w) (at sync_floor 0 w) (at trail_length 0 w - at sync_floor 0 w)

  pub copies_fit : at sync_floor 0 w + length (new_entries w) ≤ trail_room
  copies_fit = omega (arith, length_new, short, h.floor_trail)

  pub new_in_range : every (up_to last_variable) (new_entries w) ≡ true
  unfolding new_entries
  new_in_range = every-from last_variable (λ k. at trail_variables k w) (h.ranges trail_variables last_variable tt) (at sync_floor 0 w) (at trail_length 0 w - at sync_floor 0 w)

  pub copied_length : length (copied_words w) ≡ length w
  unfolding copied_words
  copied_length = length_run mirror (at sync_floor 0 w) (new_entries w) w

  pub copied-area : (b : Area) → T (apart b mirror) → area b (copied_words w) ≡ area b w
  unfolding copied_words
  copied-area b t = area-run_kept b mirror (at sync_floor 0 w) (new_entries w) w t copies_fit

  -- the words with the mirror's new length
  abbrev lengthened : List ℕ
  lengthened = put mirror_length 0 (at trail_length 0 w) (copied_words w)

  pub mirrored_length : length (mirrored_words w) ≡ length w
  unfolding mirrored_words
  mirrored_length = length_put sync_floor 0 (at trail_length 0 w) lengthened ∙ length_put mirror_length 0 (at trail_length 0 w) (copied_words w) ∙ copied_length

  pub mirrored_area : (b : Area) → T (apart b mirror) → T (apart b mirror_length) → T (apart b sync_floor) → area b (mirrored_words w) ≡ area b w
  unfolding mirrored_words
  mirrored_area b t u v =
      area_kept b sync_floor 0 (at trail_length 0 w) lengthened v (omega arith)
      ∙ area_kept b mirror_length 0 (at trail_length 0 w) (copied_words w) u (omega arith)
      ∙ copied-area b t

  pub mirrored_at : (b : Area) → T (apart b mirror) → T (apart b mirror_length) → T (apart b sync_floor) → (i : ℕ) → at b i (mirrored_words w) ≡ at b i w
  unfolding at
  mirrored_at b t u v i = rw (mirrored_area b t u v)

  pub new-floor : at sync_floor 0 (mirrored_words w) ≡ at trail_length 0 w
  unfolding mirrored_words
  new-floor = at-put-same sync_floor 0 (at trail_length 0 w) lengthened (omega arith) (omega (arith, length_put mirror_length 0 (at trail_length 0 w) (copied_words w), copied_length, h.long))

  pub new_length : at mirror_length 0 (mirrored_words w) ≡ at trail_length 0 w
  unfolding mirrored_words at
  new_length =
      rw (area_kept mirror_length sync_floor 0 (at trail_length 0 w) lengthened tt (omega arith))
      (at-put-same mirror_length 0 (at trail_length 0 w) (copied_words w) (omega arith) (omega (arith, copied_length, h.long)))

  pub mirrored_sound : Sound (mirrored_words w)
  unfolding mirrored_words copied_words
  mirrored_sound =
      record {
        long = rw mirrored_length h.long;
        ranges =
            ranged-put sync_floor trail_room 0 (at trail_length 0 w) lengthened tt (omega arith) short
            (ranged-put mirror_length trail_room 0 (at trail_length 0 w) (copied_words w) tt (omega arith) short
            (ranged-run mirror last_variable (at sync_floor 0 w) (new_entries w) w tt copies_fit new_in_range h.ranges));
        cells = λ v. rw (mirrored_at map tt tt tt v) (h.cells v);
        tables = tabled-same (mirrored_words w) w (mirrored_area tables_region tt tt tt) h.tables;
        floor_trail = rw (new-floor, mirrored_at trail_length tt tt tt 0) (omega arith);
        floor_mirror = rw (new-floor, new_length) (omega arith);
        index = rw (mirrored_at propagated tt tt tt 0, mirrored_at trail_length tt tt tt 0) h.index;
      }

-- SYNC
module _ (w : List ℕ) (h : Sound w) where
  pub sync-sound : Sound (sync_left w)
  unfolding sync_left
  sync-sound = mirrored_sound (swept_words w (touched_in w)) (swept-sound w (touched_in w) h)

  pub sync-outside : (a : Area) → T (apart a queue_region) → T (apart a mirror_region) → T (apart a sync_floor) → area a (sync_left w) ≡ area a w
  unfolding sync_left
  sync-outside a t u v =
      mirrored_area (swept_words w (touched_in w)) (swept-sound w (touched_in w) h) a (apart-inside a mirror mirror_region u tt) (apart-inside a mirror_length mirror_region u tt) v
      ∙ swept-area w (touched_in w) h a t
