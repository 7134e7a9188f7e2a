-- THE ONE SWEEP stands for the routing of the touched variables, one after the other. Assumes nothing.
use Rattle.std.specs.Prelude.{None}
use mathlib.Core.Bool.{Bool, true, false, cond, ◌||◌}
use mathlib.Core.List.{List}
use mathlib.Core.Logic.{⊎_elim}
use mathlib.Core.Path.{◌≡◌, refl, sym, ◌∙◌, fun_ext}
use Prim.Native.Nat.{ℕ, ◌≤◌, ◌<◌}
use native.Mathlib.Omega.{arith}
use borrow.Author.Tests.{lt-ltb, le-ltb}
use lib.Dec.{T, ltb, eqb}
use Rattle.meaning.specs.Standing.{of_clause, env_of, cache_by, cache_of, mark_of, queue_of}
use Rattle.meaning.specs.View.{lists_at}
use Rattle.rules.proofs.Sweeps.{routes-swept}
use Rattle.rules.specs.Sync.{routes, spoiled}
use Rattle.store.proofs.AreaLaws.{at-past}
use Rattle.rules.proofs.Choice.{lt_or, or_none, or_true}
use Rattle.store.specs.declared.area.Area.{Area}
use Rattle.store.specs.Area.{at, apart}
use Rattle.store.specs.Layout.{queued, cache_states, cache_candidates, cache_names, cache_counts, map, clause_count, environment_region}
use Rattle.store.specs.Limits.{requirements}
use Rattle.store.specs.Shape.{Sound}
use Rattle.sync.proofs.Kept.{few, woken_length, woken-area, spoiled-area, swept-area}
use Rattle.sync.proofs.Sweeping.{at-sweep}
use Rattle.sync.proofs.Tests.{none_wakes, cache_kept, spoils_kept}
use Rattle.sync.specs.Sync.{wakes_at, spoils_at, woken_words, spoiled_words, swept_words}
use Rattle.trail.specs.Assignment.{assigned}

-- a cache whose state word becomes 0 is dirty
cache_zero : (a b c : ℕ) → cache_by 0 a b c ≡ None
unfolding cache_by
cache_zero a b c = refl

cache_set : (t : Bool) (k a b c : ℕ) → cache_by (cond t 0 k) a b c ≡ cond t None (cache_by k a b c)
cache_set true k a b c = cache_zero a b c
cache_set false k a b c = refl

-- THE SWEEP
module _ (w W : List ℕ) (h : Sound w) where
  -- the marks
  mark-word : (k : ℕ) → k < at clause_count 0 w → at queued k (swept_words w W) ≡ cond (wakes_at w W k) 1 (at queued k w)
  unfolding swept_words woken_words at
  mark-word k l =
      rw (spoiled-area (woken_words w W) W queued tt)
      (at-sweep queued (wakes_at w W) 1 w (omega (arith, h.long)) k (at clause_count 0 w) (few w h) l)

  count_kept : at clause_count 0 (swept_words w W) ≡ at clause_count 0 w
  unfolding at
  count_kept = rw (swept-area w W h clause_count tt)

  mark_is : (k : ℕ) → mark_of (swept_words w W) k ≡ mark_of w k || wakes_at w W k
  unfolding mark_of of_clause
  mark_is k = rw count_kept (⊎_elim inner outer (lt_or k (at clause_count 0 w)))
    where
      set : (b : Bool) (x : ℕ) → eqb (cond b 1 x) 1 ≡ eqb x 1 || b
      set true x = sym (or_true (eqb x 1))
      set false x = sym (or_none (eqb x 1))

      inner : k < at clause_count 0 w → eqb (cond (ltb k (at clause_count 0 w)) (at queued k (swept_words w W)) 0) 1 ≡ eqb (cond (ltb k (at clause_count 0 w)) (at queued k w) 0) 1 || wakes_at w W k
      inner l = rw (lt-ltb k (at clause_count 0 w) l, mark-word k l) (set (wakes_at w W k) (at queued k w))

      outer : at clause_count 0 w ≤ k → eqb (cond (ltb k (at clause_count 0 w)) (at queued k (swept_words w W)) 0) 1 ≡ eqb (cond (ltb k (at clause_count 0 w)) (at queued k w) 0) 1 || wakes_at w W k
      outer l = rw (le-ltb k (at clause_count 0 w) l, none_wakes w W k l)

  -- the caches: each is judged as it was before the marks were set
  cache-first : (key : ℕ) → cache_of (woken_words w W) key ≡ cache_of w key
  unfolding at
  cache-first key =
      cache_kept (woken_words w W) w key (rw (woken-area w W h cache_states tt)) (woken-area w W h cache_candidates tt) (woken-area w W h cache_names tt) (woken-area w W h cache_counts tt)

  spoils-first : (key : ℕ) → spoils_at (woken_words w W) W key ≡ spoils_at w W key
  spoils-first key = spoils_kept (woken_words w W) w (woken-area w W h environment_region tt) (woken-area w W h map tt) W key (cache-first key)

  state-word : (key : ℕ) → key < requirements → at cache_states key (swept_words w W) ≡ cond (spoils_at w W key) 0 (at cache_states key w)
  unfolding swept_words spoiled_words at
  state-word key l =
      at-sweep cache_states (spoils_at (woken_words w W) W) 0 (woken_words w W) (omega (arith, woken_length w W h, h.long)) key requirements (omega arith) l
      ∙ rw (spoils-first key, woken-area w W h cache_states tt)

  other : (b : Area) → T (apart b queued) → T (apart b cache_states) → (i : ℕ) → at b i (swept_words w W) ≡ at b i w
  unfolding swept_words at
  other b t u i = rw (spoiled-area (woken_words w W) W b u, woken-area w W h b t)

  cache-is : (key : ℕ) → cache_of (swept_words w W) key ≡ spoiled (assigned w) W (lists_at w key) (cache_of w key)
  unfolding cache_of spoils_at
  cache-is key =
      rw (other cache_candidates tt tt key, other cache_names tt tt key, other cache_counts tt tt key) (⊎_elim inner outer (lt_or key requirements))
    where
      inner : key < requirements → cache_by (at cache_states key (swept_words w W)) (at cache_candidates key w) (at cache_names key w) (at cache_counts key w) ≡ spoiled (assigned w) W (lists_at w key) (cache_of w key)
      inner l = rw (state-word key l) (cache_set (spoils_at w W key) (at cache_states key w) (at cache_candidates key w) (at cache_names key w) (at cache_counts key w))

      outer : requirements ≤ key → cache_by (at cache_states key (swept_words w W)) (at cache_candidates key w) (at cache_names key w) (at cache_counts key w) ≡ spoiled (assigned w) W (lists_at w key) (cache_of w key)
      outer l = rw (at-past cache_states key (swept_words w W) l, at-past cache_states key w l, cache_zero (at cache_candidates key w) (at cache_names key w) (at cache_counts key w))

  pub sweep-is : queue_of (swept_words w W) ≡ routes (env_of w) (assigned w) W (queue_of w)
  unfolding wakes_at
  sweep-is =
      (λ i. record { mark = fun_ext mark_is i; cache = fun_ext cache-is i })
      ∙ sym (routes-swept (env_of w) (assigned w) W (queue_of w))
