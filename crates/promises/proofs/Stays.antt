-- WHAT IS LOADED STAYS: words that differ from others only in what was not loaded there stand for the same store, but for the lists of
-- requirements whose tables are new. Assumes nothing.
use mathlib.Core.List.{List, []}
use mathlib.Core.Logic.{⊎_elim, ◌≢◌}
use mathlib.Core.Path.{◌≡◌, refl, sym, ap, ◌∙◌, fun_ext}
use Prim.Native.Nat.{ℕ, ◌+◌, ◌-◌, ◌*◌, ◌≤◌, ◌<◌}
use native.Mathlib.Omega.{arith}
use borrow.Author.Tests.{lt-ltb, le-ltb, eq-eqb, ne_eqb}
use lib.Dec.{T, eqb}
use Rattle.meaning.proofs.Frames.{mirror-same, queue-same, trail-same}
use Rattle.meaning.specs.Standing.{env_of, of_clause, queue_of, store_of}
use Rattle.meaning.specs.View.{list_at, lists_at, literal_at, literals_at}
use Rattle.promises.proofs.Genuine.{Genuine, AllLoaded, mapped_frame}
use Rattle.requirement.proofs.Kept.{table_region}
use Rattle.requirement.proofs.Views.{listed-sets}
use Rattle.requirement.specs.Tables.{cells_of, first_slot, list_count, set_count, set_of}
use Rattle.rules.specs.Store.{Reached, changed, loaded, relisted, remade}
use Rattle.rules.specs.Walk.{CandidateList}
use Rattle.store.proofs.AreaLaws.{area_same, at-past, at_same, within}
use Rattle.rules.proofs.Choice.{eq_or, lt_or}
use Rattle.store.specs.Area.{area, at, apart}
use Rattle.store.specs.declared.area.Area.{Area}
use Rattle.store.specs.Layout.{activities, candidates, clause_conditions, clause_count, clause_ids, clause_parents, clause_requirements, disjunction_sizes, disjunction_starts, hot_names, list_lengths, list_starts, literal_count, literal_signs, literal_variables, mirror_region, mode, queue_region, region, set_names, sync_floor, tables_loaded, tables_region, trail_region, union_sets, union_sizes}
use Rattle.store.specs.Limits.{names, requirements, union_room, unions, version_sets}
use Rattle.store.specs.Shape.{Sound}
use Rattle.tables.proofs.BesideTables.{Beside}
use Rattle.rules.specs.Numbers.{from}
use Rattle.rules.proofs.Froms.{from_agree}

-- the words of version sets and unions, and those of disjunctions; `table_region` has those of the candidate tables
abbrev pub sets_region : Area
sets_region = region set_names union_sets

abbrev pub literals_region : Area
literals_region = region disjunction_starts literal_signs

-- version sets and unions that are loaded stay as they were, and the members of a new union are loaded
pub record SetsStay (s w : List ℕ) : Type 0 where
  pub names_stay : (v : ℕ) → at set_names v w ≢ 0 → at set_names v s ≡ at set_names v w
  pub sizes_stay : (u : ℕ) → at union_sizes u w ≢ 0 → at union_sizes u s ≡ at union_sizes u w
  pub members_stay : (u j : ℕ) → u < unions → j < at union_sizes u w - 1 → at union_sets (union_room * u + j) s ≡ at union_sets (union_room * u + j) w
  pub new_members : (u j : ℕ) → u < unions → at union_sizes u w ≡ 0 → j < at union_sizes u s - 1 → at set_names (at union_sets (union_room * u + j) s) w ≢ 0

-- candidate tables too, and the version set or the union of a new one is loaded
pub record TablesStay (s w : List ℕ) : Type 0 where
  pub marks_stay : (key : ℕ) → at tables_loaded key w ≢ 0 → at tables_loaded key s ≡ at tables_loaded key w
  pub cells_stay : (key j : ℕ) → j < list_count w key → cells_of s (first_slot key + j) ≡ cells_of w (first_slot key + j)
  pub new_single : (v : ℕ) → v < version_sets → at tables_loaded v w ≡ 0 → at tables_loaded v s ≢ 0 → at set_names v w ≢ 0
  pub new_union : (u : ℕ) → u < unions → at tables_loaded (version_sets + u) w ≡ 0 → at tables_loaded (version_sets + u) s ≢ 0 → at union_sizes u w ≢ 0

-- disjunctions too, and the literals of a new one are counted
pub record LiteralsStay (s w : List ℕ) : Type 0 where
  pub starts_stay : (d : ℕ) → at disjunction_sizes d w ≢ 0 → at disjunction_starts d s ≡ at disjunction_starts d w
  pub spans_stay : (d : ℕ) → at disjunction_sizes d w ≢ 0 → at disjunction_sizes d s ≡ at disjunction_sizes d w
  pub literals_stay : (i : ℕ) → i < at literal_count 0 w → literal_at s i ≡ literal_at w i
  pub count_grows : at literal_count 0 w ≤ at literal_count 0 s
  pub new_literals : (d : ℕ) → at disjunction_sizes d w ≡ 0 → at disjunction_sizes d s ≢ 0 → at disjunction_starts d s + (at disjunction_sizes d s - 1) ≤ at literal_count 0 s

-- all of that, and the words outside the tables
pub record Stays (s w : List ℕ) : Type 0 where
  pub beside : Beside s w
  pub sets : SetsStay s w
  pub tables : TablesStay s w
  pub literals : LiteralsStay s w

-- where the words are untouched, so is what is loaded
module _ (s w : List ℕ) where
  pub sets_untouched : area sets_region s ≡ area sets_region w → SetsStay s w
  sets_untouched e =
      record {
        names_stay = λ v h. here set_names tt v;
        sizes_stay = λ u h. here union_sizes tt u;
        members_stay = λ u j l h. here union_sets tt (union_room * u + j);
        new_members = λ u j l z h. absurd (omega (arith, here union_sizes tt u));
      }
    where
      here : (a : Area) → T (within a sets_region) → (i : ℕ) → at a i s ≡ at a i w
      here a t i = at_same a sets_region s w t e i

  pub tables_untouched : area table_region s ≡ area table_region w → TablesStay s w
  unfolding cells_of
  tables_untouched e =
      record {
        marks_stay = λ key h. here tables_loaded tt key;
        cells_stay =
            λ key j h.
            rw (here list_lengths tt (first_slot key + j), here list_starts tt (first_slot key + j), area_same candidates table_region s w tt e);
        new_single = λ v l z h. absurd (h (here tables_loaded tt v ∙ z));
        new_union = λ u l z h. absurd (h (here tables_loaded tt (version_sets + u) ∙ z));
      }
    where
      here : (a : Area) → T (within a table_region) → (i : ℕ) → at a i s ≡ at a i w
      here a t i = at_same a table_region s w t e i

  pub literals_untouched : area literals_region s ≡ area literals_region w → LiteralsStay s w
  unfolding literal_at
  literals_untouched e =
      record {
        starts_stay = λ d h. here disjunction_starts tt d;
        spans_stay = λ d h. here disjunction_sizes tt d;
        literals_stay = λ i h. rw (here literal_variables tt i, here literal_signs tt i);
        count_grows = omega (arith, here literal_count tt 0);
        new_literals = λ d z h. absurd (h (here disjunction_sizes tt d ∙ z));
      }
    where
      here : (a : Area) → T (within a literals_region) → (i : ℕ) → at a i s ≡ at a i w
      here a t i = at_same a literals_region s w t e i

-- what is loaded is not what is new
pub elsewhere : (a : Area) (w : List ℕ) (i j : ℕ) → at a i w ≡ 0 → at a j w ≢ 0 → j ≢ i
elsewhere a w i j z n e = n (ap (λ k. at a k w) e ∙ z)

-- what two functions that agree on n numbers say of them
from-within : {A : Type 0} (f g : ℕ → A) (i n : ℕ) → ((j : ℕ) → j < n → f (i + j) ≡ g (i + j)) → from f i n ≡ from g i n
from-within f g i n h =
    from_agree f g i n
    (λ k a b.
    let z : i + (k - i) ≡ k = omega arith in
    rw z at (h (k - i) (omega arith)))

-- a requirement with a table is one of document 01's
pub tabled_key : (w : List ℕ) (key : ℕ) → at tables_loaded key w ≢ 0 → key < requirements
tabled_key w key l =
    ⊎_elim (λ (h : key < requirements). h) (λ (h : requirements ≤ key). absurd (l (at-past tables_loaded key w h))) (lt_or key requirements)

-- THE LISTS OF A LOADED TABLE are named by loaded version sets, so they stay
module _ (s w : List ℕ) (sets : SetsStay s w) (tables : TablesStay s w) (r : AllLoaded w) (key : ℕ) (l : at tables_loaded key w ≢ 0) where
  key< : key < requirements
  key< = tabled_key w key l

  pub union_known : version_sets ≤ key → at union_sizes (key - version_sets) w ≢ 0
  union_known h =
      let e : version_sets + (key - version_sets) ≡ key = omega arith in
      r.unions_known (key - version_sets) (omega (arith, key<)) (rw e l)

  count-stays : list_count s key ≡ list_count w key
  unfolding list_count set_count
  count-stays =
      rw (tables.marks_stay key l)
      (⊎_elim
      (λ (h : key < version_sets). rw (lt-ltb key version_sets h))
      (λ (h : version_sets ≤ key). rw (le-ltb key version_sets h, sets.sizes_stay (key - version_sets) (union_known h)))
      (lt_or key version_sets))

  pub set_stays : (j : ℕ) → j < set_count w key → (set_of s (first_slot key + j) ≡ set_of w (first_slot key + j)) × (at set_names (set_of w (first_slot key + j)) w ≢ 0)
  unfolding set_of set_count first_slot
  set_stays j h = ⊎_elim single union (lt_or key version_sets)
    where
      single : key < version_sets → (set_of s (first_slot key + j) ≡ set_of w (first_slot key + j)) × (at set_names (set_of w (first_slot key + j)) w ≢ 0)
      single k =
          let a = lt-ltb key version_sets k in
          let m : j < 1 = rw a at h in
          let z : key + j ≡ key = omega arith in
          rw (a, z, a) (refl, r.singles key k l)

      union : version_sets ≤ key → (set_of s (first_slot key + j) ≡ set_of w (first_slot key + j)) × (at set_names (set_of w (first_slot key + j)) w ≢ 0)
      union k =
          let a = le-ltb key version_sets k in
          let m : j < at union_sizes (key - version_sets) w - 1 = rw a at h in
          let b = le-ltb (version_sets + union_room * (key - version_sets) + j) version_sets (omega arith) in
          let z : version_sets + union_room * (key - version_sets) + j - version_sets ≡ union_room * (key - version_sets) + j = omega arith in
          let u : key - version_sets < unions = omega (arith, key<) in
          rw (a, b, z) (sets.members_stay (key - version_sets) j u m, r.members (key - version_sets) j u m)

  list-stays : (j : ℕ) → j < list_count w key → list_at s (first_slot key + j) ≡ list_at w (first_slot key + j)
  unfolding list_at
  list-stays j h =
      let p = set_stays j (listed-sets w key j h) in
      rw (p.0, sets.names_stay (set_of w (first_slot key + j)) p.1, tables.cells_stay key j h)

  loaded-lists-stay : lists_at s key ≡ lists_at w key
  unfolding lists_at
  loaded-lists-stay = rw count-stays (from-within (list_at s) (list_at w) (first_slot key) (list_count w key) list-stays)

-- a requirement without a table has no lists
pub no_lists : (w : List ℕ) (key : ℕ) → at tables_loaded key w ≡ 0 → lists_at w key ≡ []
unfolding lists_at list_count from
no_lists w key e = rw e

lists_stay : (s w : List ℕ) → SetsStay s w → TablesStay s w → AllLoaded w → (key : ℕ) → at tables_loaded key s ≡ at tables_loaded key w → lists_at s key ≡ lists_at w key
lists_stay s w sets tables r key m =
    ⊎_elim
    (λ (e : at tables_loaded key w ≡ 0). no_lists s key (m ∙ e) ∙ sym (no_lists w key e))
    (λ (l : at tables_loaded key w ≡ 0 → ⊥). loaded-lists-stay s w sets tables r key l)
    (eq_or (at tables_loaded key w) 0)

-- the words outside the tables
module _ (s w : List ℕ) (beside : Beside s w) where
  pub at-beside : (a : Area) → T (apart a tables_region) → (i : ℕ) → at a i s ≡ at a i w
  unfolding at
  at-beside a t i = rw (beside a t)

  pub clause-beside : (a : Area) → T (apart a tables_region) → (k : ℕ) → of_clause a s k ≡ of_clause a w k
  unfolding of_clause
  clause-beside a t k = rw (at-beside clause_count tt 0, at-beside a t k)

-- THE CONDITION OF A REGISTERED CLAUSE is loaded, and its literals are counted, so they stay
module _ (s w : List ℕ) (beside : Beside s w) (literals : LiteralsStay s w) (r : AllLoaded w) where
  loaded-literals-stay : (d : ℕ) → at disjunction_sizes d w ≢ 0 → from (literal_at s) (at disjunction_starts d s) (at disjunction_sizes d s - 1) ≡ from (literal_at w) (at disjunction_starts d w) (at disjunction_sizes d w - 1)
  loaded-literals-stay d l =
      rw (literals.starts_stay d l, literals.spans_stay d l)
      (from-within (literal_at s) (literal_at w) (at disjunction_starts d w) (at disjunction_sizes d w - 1)
      (λ j h. literals.literals_stay (at disjunction_starts d w + j) (omega (arith, r.literals d l))))

  pub condition-stays : (k : ℕ) → literals_at s (of_clause clause_conditions s k) ≡ literals_at w (of_clause clause_conditions w k)
  unfolding of_clause literals_at
  condition-stays k =
      rw (at-beside s w beside clause_count tt 0, at-beside s w beside clause_conditions tt k)
      (⊎_elim
      (λ (h : k < at clause_count 0 w).
      rw (lt-ltb k (at clause_count 0 w) h)
      (⊎_elim
      (λ (e : at clause_conditions k w ≡ 0). rw (eq-eqb (at clause_conditions k w) 0 e))
      (λ (e : at clause_conditions k w ≡ 0 → ⊥).
      rw (ne_eqb (at clause_conditions k w) 0 e) (loaded-literals-stay (at clause_conditions k w - 1) (r.conditions k h e)))
      (eq_or (at clause_conditions k w) 0)))
      (λ (h : at clause_count 0 w ≤ k). rw (le-ltb k (at clause_count 0 w) h))
      (lt_or k (at clause_count 0 w)))

module _ (s w : List ℕ) (stays : Stays s w) (r : AllLoaded w) where
  here : (a : Area) → T (apart a tables_region) → (i : ℕ) → at a i s ≡ at a i w
  here a t i = at-beside s w stays.beside a t i

  clauses-here : (a : Area) → T (apart a tables_region) → of_clause a s ≡ of_clause a w
  clauses-here a t = fun_ext (clause-beside s w stays.beside a t)

  -- THE STORE is that of w, with the lists that there are now
  store-with : (ls : ℕ → List CandidateList) → ((key : ℕ) → lists_at s key ≡ ls key) → store_of s ≡ remade (store_of w) (relisted (env_of w) ls) (queue_of w)
  store-with ls f =
      λ i.
      record {
        env =
            record {
              size = here clause_count tt 0 i;
              parent = clauses-here clause_parents tt i;
              requirement = clauses-here clause_requirements tt i;
              condition = fun_ext (condition-stays s w stays.beside stays.literals r) i;
              clause_id = clauses-here clause_ids tt i;
              lists = fun_ext f i;
              activity = fun_ext (here activities tt) i;
              names = names;
              hot = fun_ext (λ n. ap (λ x. eqb x 1) (here hot_names tt n)) i;
              standard = ap (λ x. eqb x 1) (here mode tt 0) i;
              rule = 1;
            };
        trail = trail-same s w (stays.beside trail_region tt) i;
        mirror = mirror-same s w (stays.beside mirror_region tt) i;
        floor = here sync_floor tt 0 i;
        queue = queue-same s w (stays.beside queue_region tt) (here clause_count tt 0) i;
      }

  -- the same store, where no table is new
  pub store_same : ((key : ℕ) → at tables_loaded key s ≡ at tables_loaded key w) → store_of s ≡ store_of w
  store_same m = store-with (lists_at w) (λ key. lists_stay s w stays.sets stays.tables r key (m key))

  -- and the store with the lists of one requirement, where only its table may be new
  pub store_loaded : (key : ℕ) → ((other : ℕ) → other ≢ key → at tables_loaded other s ≡ at tables_loaded other w) → store_of s ≡ loaded (store_of w) key (lists_at s key)
  store_loaded key m =
      store-with (changed (lists_at w) key (lists_at s key))
      (λ other.
      ⊎_elim
      (λ (e : other ≡ key). rw (eq-eqb other key e, e))
      (λ (e : other ≡ key → ⊥). rw (ne_eqb other key e) (lists_stay s w stays.sets stays.tables r other (m other e)))
      (eq_or other key))

  -- what is named in the new words is loaded there
  named-stays : (v : ℕ) → at set_names v w ≢ 0 → at set_names v s ≢ 0
  named-stays v h = rw (stays.sets.names_stay v h) h

  sized-stays : (u : ℕ) → at union_sizes u w ≢ 0 → at union_sizes u s ≢ 0
  sized-stays u h = rw (stays.sets.sizes_stay u h) h

  all-loaded-stays : AllLoaded s
  all-loaded-stays =
      record {
        singles =
            λ v l h.
            named-stays v
            (⊎_elim
            (λ (e : at tables_loaded v w ≡ 0). stays.tables.new_single v l e h)
            (λ (e : at tables_loaded v w ≡ 0 → ⊥). r.singles v l e)
            (eq_or (at tables_loaded v w) 0));
        unions_known =
            λ u l h.
            sized-stays u
            (⊎_elim
            (λ (e : at tables_loaded (version_sets + u) w ≡ 0). stays.tables.new_union u l e h)
            (λ (e : at tables_loaded (version_sets + u) w ≡ 0 → ⊥). r.unions_known u l e)
            (eq_or (at tables_loaded (version_sets + u) w) 0));
        members =
            λ u j l h.
            named-stays (at union_sets (union_room * u + j) s)
            (⊎_elim
            (λ (e : at union_sizes u w ≡ 0). stays.sets.new_members u j l e h)
            (λ (e : at union_sizes u w ≡ 0 → ⊥).
            let k = rw (stays.sets.sizes_stay u e) at h in
            rw (stays.sets.members_stay u j l k) (r.members u j l k))
            (eq_or (at union_sizes u w) 0));
        conditions =
            λ k l h.
            let n = r.conditions k (rw (here clause_count tt 0) at l) (rw (here clause_conditions tt k) at h) in
            rw (here clause_conditions tt k, stays.literals.spans_stay (at clause_conditions k w - 1) n) n;
        literals =
            λ d h.
            ⊎_elim
            (λ (e : at disjunction_sizes d w ≡ 0). stays.literals.new_literals d e h)
            (λ (e : at disjunction_sizes d w ≡ 0 → ⊥).
            rw (stays.literals.starts_stay d e, stays.literals.spans_stay d e) (omega (arith, r.literals d e, stays.literals.count_grows)))
            (eq_or (at disjunction_sizes d w) 0);
      }

-- WORDS THAT ARE GENUINE STAY SO where what is loaded stays and the store is one that is reached
pub genuine_stays : (s w : List ℕ) → Genuine w → Sound s → Stays s w → Reached (store_of s) → Genuine s
genuine_stays s w g sound stays reached =
    record {
      sound = sound;
      mapped = mapped_frame s w (stays.beside trail_region tt) g.mapped;
      all_loaded = all-loaded-stays s w stays g.all_loaded;
      reached = reached;
    }
