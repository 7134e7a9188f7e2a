-- WORDS REACHED FROM FRESH are genuine: they are of sound shape, the map holds what the trail says, what is named is loaded, and the
-- store that they stand for is one that document 01 reaches. Each call keeps this. Assumes nothing.
use mathlib.Core.List.{List}
use mathlib.Core.Logic.{◌≢◌}
use mathlib.Core.Path.{◌≡◌, ap, sym, ◌∙◌}
use Prim.Native.Nat.{ℕ, ◌+◌, ◌-◌, ◌*◌, ◌≤◌, ◌<◌}
use lib.Dec.{T}
use Rattle.meaning.proofs.Frames.{assigned-same, trail-same}
use Rattle.meaning.specs.Standing.{store_of, trail_of}
use Rattle.rules.proofs.Map.{Grown}
use Rattle.rules.specs.Store.{Reached}
use Rattle.rules.specs.Sync.{Entry, value}
use Rattle.store.proofs.AreaLaws.{area_same, at_same, within}
use Rattle.store.specs.Area.{area, at}
use Rattle.store.specs.declared.area.Area.{Area}
use Rattle.store.specs.Layout.{clause_conditions, clause_count, clauses_region, disjunction_sizes, disjunction_starts, environment_region, literal_count, map, set_names, tables_loaded, tables_region, trail_region, union_sets, union_sizes}
use Rattle.store.specs.Limits.{union_room, unions, version_sets}
use Rattle.store.specs.Shape.{Sound}
use Rattle.rules.specs.declared.Value.{Value}
use Rattle.trail.specs.Assignment.{assigned}

-- a variable has the value of its entry in the trail, and stands there once
pub record Mapped (w : List ℕ) : Type 0 where
  pub told : (v : ℕ) → assigned w v ≡ value (trail_of w) v
  pub grown : Grown (trail_of w)

-- a table's version sets, a union's members and a clause's condition are loaded; the literals of a loaded disjunction are counted
pub record AllLoaded (w : List ℕ) : Type 0 where
  pub singles : (v : ℕ) → v < version_sets → at tables_loaded v w ≢ 0 → at set_names v w ≢ 0
  pub unions_known : (u : ℕ) → u < unions → at tables_loaded (version_sets + u) w ≢ 0 → at union_sizes u w ≢ 0
  pub members : (u j : ℕ) → u < unions → j < at union_sizes u w - 1 → at set_names (at union_sets (union_room * u + j) w) w ≢ 0
  pub conditions : (k : ℕ) → k < at clause_count 0 w → at clause_conditions k w ≢ 0 → at disjunction_sizes (at clause_conditions k w - 1) w ≢ 0
  pub literals : (d : ℕ) → at disjunction_sizes d w ≢ 0 → at disjunction_starts d w + (at disjunction_sizes d w - 1) ≤ at literal_count 0 w

pub record Genuine (w : List ℕ) : Type 0 where
  pub sound : Sound w
  pub mapped : Mapped w
  pub all_loaded : AllLoaded w
  pub reached : Reached (store_of w)

-- what is outside the trail's region does not matter to the map
pub mapped-same : (s w : List ℕ) → assigned s ≡ assigned w → trail_of s ≡ trail_of w → Mapped w → Mapped s
mapped-same s w a e m =
    record {
      told = λ v. ap (λ (f : ℕ → Value). f v) a ∙ m.told v ∙ ap (λ (d : List Entry). value d v) (sym e);
      grown = rw e m.grown;
    }

pub mapped_frame : (s w : List ℕ) → area trail_region s ≡ area trail_region w → Mapped w → Mapped s
mapped_frame s w e = mapped-same s w (assigned-same s w (area_same map trail_region s w tt e)) (trail-same s w e)

-- and to what is loaded only the tables do, and the clauses' conditions
module _ (s w : List ℕ) where
  pub all-loaded_by_tables : area tables_region s ≡ area tables_region w → AllLoaded w → ((k : ℕ) → k < at clause_count 0 s → at clause_conditions k s ≢ 0 → at disjunction_sizes (at clause_conditions k s - 1) w ≢ 0) → AllLoaded s
  all-loaded_by_tables e r c =
      record {
        singles = λ v l h. rw (here set_names tt v) (r.singles v l (rw (here tables_loaded tt v) at h));
        unions_known = λ u l h. rw (here union_sizes tt u) (r.unions_known u l (rw (here tables_loaded tt (version_sets + u)) at h));
        members =
            λ u j l h.
            rw (here union_sets tt (union_room * u + j), here set_names tt (at union_sets (union_room * u + j) w))
            (r.members u j l (rw (here union_sizes tt u) at h));
        conditions = λ k l h. rw (here disjunction_sizes tt (at clause_conditions k s - 1)) (c k l h);
        literals =
            λ d h.
            rw (here disjunction_starts tt d, here disjunction_sizes tt d, here literal_count tt 0) (r.literals d (rw (here disjunction_sizes tt d) at h));
      }
    where
      here : (a : Area) → T (within a tables_region) → (i : ℕ) → at a i s ≡ at a i w
      here a t i = at_same a tables_region s w t e i

  pub all-loaded-same : area clauses_region s ≡ area clauses_region w → area tables_region s ≡ area tables_region w → AllLoaded w → AllLoaded s
  all-loaded-same c e r =
      all-loaded_by_tables e r
      (λ k l h. rw (clause clause_conditions tt k) (r.conditions k (rw (clause clause_count tt 0) at l) (rw (clause clause_conditions tt k) at h)))
    where
      clause : (a : Area) → T (within a clauses_region) → (i : ℕ) → at a i s ≡ at a i w
      clause a t i = at_same a clauses_region s w t c i

  pub all-loaded_frame : area environment_region s ≡ area environment_region w → AllLoaded w → AllLoaded s
  all-loaded_frame e = all-loaded-same (area_same clauses_region environment_region s w tt e) (area_same tables_region environment_region s w tt e)
