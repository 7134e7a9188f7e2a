-- THE SYNC OF THE WORDS IS DOCUMENT 01'S: the words that it leaves stand for the synced store. Assumes nothing.
use mathlib.Core.List.{List, ◌++◌}
use mathlib.Core.Path.{◌≡◌, sym, ap, ◌∙◌, fun_ext}
use Prim.Native.Nat.{ℕ}
use lib.Dec.{T}
use lib.ListN.{take, drop}
use Rattle.meaning.proofs.Frames.{env-same, assigned-same, queue-same, trail-same, mirror-same}
use Rattle.meaning.specs.Standing.{env_of, queue_of, trail_of, mirror_of, store_of}
use Rattle.rules.specs.Store.{sync, touched}
use Rattle.rules.specs.Sync.{value, variables, routes}
use Rattle.store.specs.declared.area.Area.{Area}
use Rattle.store.specs.Area.{at, apart}
use Rattle.store.specs.Layout.{mirror_length, sync_floor, trail_length, map, clause_count, environment_region, mirror_region, queue_region, trail_region}
use Rattle.store.specs.Shape.{Sound}
use Rattle.sync.proofs.Kept.{swept-area, swept-sound, mirrored_area, mirrored_at, new-floor, new_length, sync-outside}
use Rattle.sync.proofs.Mirrored.{touched-is, mirror_is, trail_kept}
use Rattle.sync.proofs.Swept.{sweep-is}
use Rattle.sync.specs.Sync.{touched_in, swept_words, mirrored_words, sync_left}
use Rattle.rules.specs.declared.Value.{Value}
use Rattle.trail.specs.Assignment.{assigned}
use Rattle.meaning.proofs.Lists.{length_trail}

-- SYNC
module _ (w : List ℕ) (h : Sound w) where
  abbrev s : List ℕ
  s = swept_words w (touched_in w)

  sound : Sound s
  sound = swept-sound w (touched_in w) h

  -- the queue: the touched variables are routed, one after the other
  pub sync-is : queue_of (sync_left w) ≡ routes (env_of w) (assigned w) (touched_in w) (queue_of w)
  unfolding sync_left
  sync-is =
      queue-same (mirrored_words s) s (mirrored_area s sound queue_region tt tt tt) (mirrored_at s sound clause_count tt tt tt 0)
      ∙ sweep-is w (touched_in w) h

  swept_at : (b : Area) → T (apart b queue_region) → (i : ℕ) → at b i s ≡ at b i w
  unfolding at
  swept_at b t i = rw (swept-area w (touched_in w) h b t)

  swept-trail : trail_of s ≡ trail_of w
  swept-trail = trail-same s w (swept-area w (touched_in w) h trail_region tt)

  -- the trail stays
  pub sync-trail : trail_of (sync_left w) ≡ trail_of w
  unfolding sync_left
  sync-trail = trail_kept s sound ∙ swept-trail

  -- so does the assignment
  pub sync-assigned : assigned (sync_left w) ≡ assigned w
  sync-assigned = assigned-same (sync_left w) w (sync-outside w h map tt tt tt)

  -- the mirror has the trail's entries from the floor on
  pub sync-mirror : mirror_of (sync_left w) ≡ take (at sync_floor 0 w) (mirror_of w) ++ variables (drop (at sync_floor 0 w) (trail_of w))
  unfolding sync_left
  sync-mirror =
      let m = mirror-same s w (swept-area w (touched_in w) h mirror_region tt) in
      mirror_is s sound ∙ rw (swept_at sync_floor tt 0, m, swept-trail)

  -- it is as long as the trail, and so far goes the floor
  pub sync-mirror_length : at mirror_length 0 (sync_left w) ≡ at trail_length 0 w
  unfolding sync_left
  sync-mirror_length = new_length s sound ∙ swept_at trail_length tt 0

  pub sync-floor : at sync_floor 0 (sync_left w) ≡ at trail_length 0 w
  unfolding sync_left
  sync-floor = new-floor s sound ∙ swept_at trail_length tt 0

  -- where the map holds what the trail says, the words stand for the synced store
  pub sync-stands : ((v : ℕ) → assigned w v ≡ value (trail_of w) v) → store_of (sync_left w) ≡ sync (store_of w)
  sync-stands told =
      λ i.
      record {
        env = env-same (sync_left w) w (sync-outside w h environment_region tt tt tt) i;
        trail = sync-trail i;
        mirror = sync-mirror i;
        floor = (sync-floor ∙ sym (length_trail w)) i;
        queue = queue-is i;
      }
    where
      queue-is : queue_of (sync_left w) ≡ routes (env_of w) (value (trail_of w)) (touched (store_of w)) (queue_of w)
      queue-is =
          sync-is
          ∙ ap (λ (a : ℕ → Value). routes (env_of w) a (touched_in w) (queue_of w)) (fun_ext told)
          ∙ ap (λ (W : List ℕ). routes (env_of w) (value (trail_of w)) W (queue_of w)) (touched-is w h)
