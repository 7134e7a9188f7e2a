-- THE SETTINGS' CALLS KEEP WORDS GENUINE: each tunes document 01's store. Assumes nothing.
use mathlib.Core.List.{List}
use mathlib.Core.Path.{◌≡◌, refl, sym, subst}
use Prim.Native.Nat.{ℕ}
use lib.Dec.{T}
use lib.Ieee.{Float, binary32, fits}
use Rattle.meaning.proofs.Frames.{clauses_same, env-tuned, mirror-same, queue-same, trail-same}
use Rattle.meaning.specs.Standing.{env_of, store_of}
use Rattle.promises.proofs.Genuine.{Genuine, mapped_frame, all-loaded-same}
use Rattle.promises.proofs.Rows.{by_shape}
use Rattle.rules.specs.Store.{Reached, then, tuned, tunes}
use Rattle.settings.proofs.Kept.{activity-outside, activity-sound, hot-outside, hot-sound, mode-outside, mode-sound}
use Rattle.store.proofs.AreaLaws.{at_same}
use Rattle.store.specs.Area.{apart, area}
use Rattle.store.specs.declared.area.Area.{Area}
use Rattle.store.specs.Layout.{clauses_region, mirror_region, queue_region, settings_region, sync_floor, tables_region, trail_region}
use Rattle.store.specs.Shape.{Sound}
use Rattle.settings.specs.Settings.{activity_row, hot_row, mode_row}
use Rattle.store.specs.Row.{left_sound, left_any}

-- A CALL THAT WRITES THE SETTINGS' REGION ALONE leaves words that differ in activities, hot names and mode
module _ (s w : List ℕ) (out : (a : Area) → T (apart a settings_region) → area a s ≡ area a w) where
  store-tuned : store_of s ≡ tuned (store_of w) (env_of s).activity (env_of s).hot (env_of s).standard (env_of s).rule
  store-tuned =
      λ i.
      record {
        env = env-tuned s w (out clauses_region tt) (out tables_region tt) (env_of s).activity (env_of s).hot (env_of s).standard (env_of s).rule refl refl refl refl i;
        trail = trail-same s w (out trail_region tt) i;
        mirror = mirror-same s w (out mirror_region tt) i;
        floor = at_same sync_floor trail_region s w tt (out trail_region tt) 0 i;
        queue = queue-same s w (out queue_region tt) (clauses_same s w (out clauses_region tt)) i;
      }

  tuned-genuine : Sound s → Genuine w → Genuine s
  tuned-genuine h g =
      record {
        sound = h;
        mapped = mapped_frame s w (out trail_region tt) g.mapped;
        all_loaded = all-loaded-same s w (out clauses_region tt) (out tables_region tt) g.all_loaded;
        reached = subst Reached (sym store-tuned) (then g.reached (tunes (env_of s).activity (env_of s).hot (env_of s).standard (env_of s).rule));
      }

-- THE THREE CALLS
module _ (w : List ℕ) (g : Genuine w) where
  pub mark-hot_genuine : (name : ℕ) → Genuine (left_any w (hot_row w name))
  mark-hot_genuine name = by_shape Genuine w _ g (λ _. tuned-genuine (left_sound w (hot_row w name)) w (λ a t. hot-outside w a t name) (hot-sound w g.sound name) g)

  -- a float parameter always fits its format
  pub set_activity_genuine : (name : ℕ) (x : Float) → T (fits binary32 x) → Genuine (left_any w (activity_row w name x))
  set_activity_genuine name x f =
      by_shape Genuine w _ g (λ _. tuned-genuine (left_sound w (activity_row w name x)) w (λ a t. activity-outside w a t name x f) (activity-sound w g.sound name x f) g)

  pub set_mode_genuine : (m : ℕ) → Genuine (left_any w (mode_row w m))
  set_mode_genuine m = by_shape Genuine w _ g (λ _. tuned-genuine (left_sound w (mode_row w m)) w (λ a t. mode-outside w a t m) (mode-sound w g.sound m) g)
