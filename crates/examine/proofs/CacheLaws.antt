-- Writing a cache: what it says then, and what every other cache and area still says. Assumes nothing.
use Rattle.std.specs.Prelude.{Some, None}
use mathlib.Core.Bool.{Bool, true, false, cond, false≢true}
use mathlib.Core.List.{List, [], ◌∷◌}
use mathlib.Core.Logic.{◌⊎◌, inl, inr, ⊎_elim, ◌≢◌}
use mathlib.Core.Path.{◌≡◌, refl, subst, ◌∙◌}
use Prim.Native.Nat.{ℕ, ◌≤◌, ◌<◌}
use native.Mathlib.Omega.{arith}
use lib.Dec.{T, eqb}
use lib.ListN.{length}
use Rattle.meaning.proofs.Frames.{caches_region}
use Rattle.meaning.specs.Standing.{cache_by, cache_of}
use Rattle.examine.specs.Cache.{cache_writes, cached}
use Rattle.store.proofs.AreaLaws.{area-puts, at_kept, at-put_else, at-written, clear_outside, length_puts}
use Rattle.store.proofs.Soundness.{sound-put}
use Rattle.store.specs.declared.area.Area.{Area}
use Rattle.store.specs.Area.{Inside, Write, apart, area, at, put, puts, write}
use Rattle.store.specs.Layout.{cache_candidates, cache_counts, cache_names, cache_states, words}
use Rattle.store.specs.Limits.{cell_room, last_name, last_variable, requirements}
use Rattle.store.specs.Shape.{Sound}
use Rattle.rules.specs.declared.State.TheVariants.{Satisfied, Frontier}
use Rattle.rules.specs.declared.State.TheVariants as state

-- every write lies in another area, or at another place of this one
abbrev Elsewhere : Area → ℕ → List Write → Type 0
Elsewhere a j [] = Unit {0}
Elsewhere a j (x ∷ xs) = (T (apart a x.to) ⊎ ((x.to ≡ a) × (j ≢ x.place))) × Elsewhere a j xs

at-elsewhere : (a : Area) (j : ℕ) (ws : List Write) (w : List ℕ) → Inside ws → Elsewhere a j ws → at a j (puts ws w) ≡ at a j w
at-elsewhere a j [] w i e = refl
at-elsewhere a j (x ∷ xs) w i e =
    at-elsewhere a j xs (put x.to x.place x.word w) i.1 e.1
    ∙ ⊎_elim
    (λ (p : T (apart a x.to)). at_kept a x.to x.place j x.word w p i.0)
    (λ (p : (x.to ≡ a) × (j ≢ x.place)).
    subst (λ (b : Area). at b j (put x.to x.place x.word w) ≡ at b j w) p.0 (at-put_else x.to x.place j x.word w i.0 p.1))
    e.0

module _ (w : List ℕ) (key state x n m : ℕ) (h : key < requirements) where
  inside : Inside (cache_writes key state x n m)
  inside = (h, (h, (h, (h, tt))))

  pub length_cached : length (cached w key state x n m) ≡ length w
  unfolding cached
  length_cached = length_puts (cache_writes key state x n m) w

  pub area-cached : (a : Area) → T (apart a caches_region) → area a (cached w key state x n m) ≡ area a w
  unfolding cached
  area-cached a p = area-puts a (cache_writes key state x n m) w (clear_outside a caches_region (cache_writes key state x n m) p tt) inside

  -- the four words that were written
  module _ (l : words ≤ length w) where
    at-state : at cache_states key (cached w key state x n m) ≡ state
    unfolding cached
    at-state = at-written cache_states key state (write cache_candidates key x ∷ write cache_names key n ∷ write cache_counts key m ∷ []) w (omega arith) h tt (h, (h, (h, tt)))

    at-candidate : at cache_candidates key (cached w key state x n m) ≡ x
    unfolding cached
    at-candidate =
        at-written cache_candidates key x (write cache_names key n ∷ write cache_counts key m ∷ [])
        (puts (write cache_states key state ∷ []) w)
        (omega (arith, length_puts (write cache_states key state ∷ []) w)) h tt (h, (h, tt))

    at_name : at cache_names key (cached w key state x n m) ≡ n
    unfolding cached
    at_name =
        at-written cache_names key n (write cache_counts key m ∷ [])
        (puts (write cache_states key state ∷ write cache_candidates key x ∷ []) w)
        (omega (arith, length_puts (write cache_states key state ∷ write cache_candidates key x ∷ []) w)) h tt (h, tt)

    at_count : at cache_counts key (cached w key state x n m) ≡ m
    unfolding cached
    at_count =
        at-written cache_counts key m []
        (puts (write cache_states key state ∷ write cache_candidates key x ∷ write cache_names key n ∷ []) w)
        (omega (arith, length_puts (write cache_states key state ∷ write cache_candidates key x ∷ write cache_names key n ∷ []) w)) h tt tt

    -- the cache that was written
    pub cache-written : cache_of (cached w key state x n m) key ≡ cache_by state x n m
    unfolding cache_of
    cache-written = rw (at-state, at-candidate, at_name, at_count)

  -- any other
  pub cache_else : (j : ℕ) → j ≢ key → cache_of (cached w key state x n m) j ≡ cache_of w j
  unfolding cache_of cached
  cache_else j d =
      rw (
        at-elsewhere cache_states j (cache_writes key state x n m) w inside (inr (refl, d), (inl tt, (inl tt, (inl tt, tt)))),
        at-elsewhere cache_candidates j (cache_writes key state x n m) w inside (inl tt, (inr (refl, d), (inl tt, (inl tt, tt)))),
        at-elsewhere cache_names j (cache_writes key state x n m) w inside (inl tt, (inl tt, (inr (refl, d), (inl tt, tt)))),
        at-elsewhere cache_counts j (cache_writes key state x n m) w inside (inl tt, (inl tt, (inl tt, (inr (refl, d), tt)))),
      )

  -- numbers in range keep a store sound
  pub sound-cached : state ≤ 2 → x ≤ last_variable → n ≤ last_name → m ≤ cell_room → Sound w → Sound (cached w key state x n m)
  unfolding cached
  sound-cached a b c d s =
      sound-put cache_counts cell_room key m _ tt tt h d
      (sound-put cache_names last_name key n _ tt tt h c
      (sound-put cache_candidates last_variable key x _ tt tt h b
      (sound-put cache_states 2 key state w tt tt h a s)))

-- "the dead requirement's cache stays dirty": no words say that it is dead
never_dead : (kind x n m : ℕ) → cache_by kind x n m ≡ Some state.Dead → ⊥
unfolding cache_by
never_dead kind x n m = go (eqb kind 0) (eqb kind 1)
  where
    go : (a b : Bool) → cond a None (cond b (Some (Satisfied x)) (Some (Frontier x n m))) ≡ Some state.Dead → ⊥
    go true b q = false≢true (cc)
    go false true q = false≢true (cc)
    go false false q = false≢true (cc)

pub never_known-dead : (w : List ℕ) (key : ℕ) → cache_of w key ≡ Some state.Dead → ⊥
unfolding cache_of
never_known-dead w key q = never_dead (at cache_states key w) (at cache_candidates key w) (at cache_names key w) (at cache_counts key w) q
