-- WHAT A REGISTERED CLAUSE ADDS TO THE TOTALS: its condition's literals and its requirement's distinct names. Both are of what is loaded,
-- so they stay whatever is loaded besides. Assumes nothing.
use mathlib.Core.Bool.{Bool}
use mathlib.Core.List.{List}
use mathlib.Core.Logic.{⊎_elim, ◌≢◌}
use mathlib.Core.Path.{◌≡◌, refl, sym, ap, ◌∙◌}
use Prim.Native.Nat.{ℕ, zero, suc, ◌+◌, ◌-◌, ◌≤◌, ◌<◌}
use native.Mathlib.Numerals.{add-one}
use native.Mathlib.Omega.{arith}
use borrow.Author.Tests.{eq-eqb, le-ltb, lt-ltb, ne_eqb}
use lib.Dec.{T}
use lib.ListN.{length}
use Rattle.clauses.proofs.ReadBack.{Shifted}
use Rattle.clauses.specs.Names.{distinct_names, name_count, new_name, new_names, other_name}
use Rattle.clauses.specs.Register.{condition_word, literal_count_of}
use Rattle.meaning.specs.View.{literal_at, literals_at}
use Rattle.promises.proofs.Genuine.{AllLoaded}
use Rattle.promises.proofs.Stays.{LiteralsStay, SetsStay, TablesStay, set_stays, union_known}
use Rattle.promises.specs.Totals.{condition_named, over_clauses, stored_literals, sum}
use Rattle.requirement.specs.Tables.{first_slot, name_of, set_count, set_of}
use Rattle.store.proofs.AreaLaws.{at_same, within}
use Rattle.rules.proofs.Choice.{eq_or, lt_or}
use Rattle.store.specs.Area.{area, at}
use Rattle.store.specs.declared.area.Area.{Area}
use Rattle.store.specs.Layout.{clause_count, disjunction_sizes, set_names, tables_loaded, tables_region, union_sets, union_sizes}
use Rattle.store.specs.Limits.{disjunctions, last_word, version_sets}
use Rattle.rules.specs.Numbers.{all_from}
use Rattle.tables.specs.Disjunction.{literals_of}
use Rattle.rules.proofs.Froms.{length_from}

-- SUMS: of the same numbers, and of numbers with one put in at a place
pub sum_same : (f g : ℕ → ℕ) (n : ℕ) → ((k : ℕ) → k < n → f k ≡ g k) → sum f n ≡ sum g n
unfolding sum
sum_same f g zero h = refl
sum_same f g (suc n) h = rw (h n (omega arith), sum_same f g n (λ k l. h k (omega arith)))

sum-inserted : (f g : ℕ → ℕ) (place n : ℕ) → place ≤ n → ((k : ℕ) → k < place → f k ≡ g k) →
    ((k : ℕ) → place ≤ k → k < n → f (k + 1) ≡ g k) → sum f (suc n) ≡ sum g n + f place
unfolding sum
sum-inserted f g place zero h before behind =
    let e : place ≡ 0 = omega arith in
    rw e
sum-inserted f g place (suc n) h before behind =
    ⊎_elim
    (λ (l : place < suc n).
    let rest = sum-inserted f g place n (omega arith) before (λ k m p. behind k m (omega arith)) in
    let last : f (suc n) ≡ g n = rw add-one at (behind n (omega arith) (omega arith)) in
    rw (rest, last) (omega arith))
    (λ (l : suc n ≤ place).
    let e : place ≡ suc n = omega arith in
    rw (e, sum_same f g (suc n) (λ k m. before k (omega arith))))
    (lt_or place (suc n))

-- a word put in at a rank puts what a function says of it in
pub over-inserted : (f : List ℕ → ℕ → ℕ) (a : Area) (rank x : ℕ) (s w : List ℕ) → rank ≤ at clause_count 0 w →
    at clause_count 0 s ≡ at clause_count 0 w + 1 → Shifted a rank (at clause_count 0 w) x s w → ((y : ℕ) → f s y ≡ f w y) →
    over_clauses f a s ≡ over_clauses f a w + f w x
over-inserted f a rank x s w low more h same =
    ap (sum (λ k. f s (at a k s))) (more ∙ add-one (at clause_count 0 w))
    ∙ sum-inserted (λ k. f s (at a k s)) (λ k. f w (at a k w)) rank (at clause_count 0 w) low
    (λ k l. same (at a k s) ∙ ap (f w) (h.before k l))
    (λ k l m. same (at a (k + 1) s) ∙ ap (f w) (h.behind k l m))
    ∙ ap (λ y. over_clauses f a w + y) (same (at a rank s) ∙ ap (f w) h.here)

-- DISTINCT NAMES are those of the version sets, one after the other
all-within : (p q : ℕ → Bool) (i n : ℕ) → ((k : ℕ) → i ≤ k → k < i + n → p k ≡ q k) → all_from p i n ≡ all_from q i n
unfolding all_from
all-within p q i zero h = refl
all-within p q i (suc n) h = rw (h i (omega arith) (omega arith), all-within p q (i + 1) n (λ k l m. h k (omega arith) (omega arith)))

module _ (s w : List ℕ) (first n : ℕ) (same : (j : ℕ) → j < n → name_of s (set_of s (first + j)) ≡ name_of w (set_of w (first + j))) where
  count-within : (i : ℕ) → i < n → name_count s first i ≡ name_count w first i
  unfolding name_count new_name other_name
  count-within i h =
      rw (all-within (other_name s first i) (other_name w first i) 0 i (λ k l m. rw (same k (omega arith), same i h)))

  names-within : (i : ℕ) → i ≤ n → new_names s first i ≡ new_names w first i
  unfolding new_names
  names-within zero h = refl
  names-within (suc i) h = rw (names-within i (omega arith), count-within i h)

distinct-same : (s w : List ℕ) (key : ℕ) → set_count s key ≡ set_count w key →
    ((j : ℕ) → j < set_count w key → name_of s (set_of s (first_slot key + j)) ≡ name_of w (set_of w (first_slot key + j))) →
    distinct_names s key ≡ distinct_names w key
unfolding distinct_names
distinct-same s w key e same = rw e (names-within s w (first_slot key) (set_count w key) same (set_count w key) (omega arith))

-- so they stay where a requirement has its table, whatever else is loaded
pub distinct-stays : (s w : List ℕ) → SetsStay s w → TablesStay s w → AllLoaded w → (key : ℕ) → at tables_loaded key w ≢ 0 →
    distinct_names s key ≡ distinct_names w key
unfolding set_count
distinct-stays s w sets tables r key l =
    distinct-same s w key
    (⊎_elim
    (λ (h : key < version_sets). rw (lt-ltb key version_sets h))
    (λ (h : version_sets ≤ key). rw (le-ltb key version_sets h, sets.sizes_stay (key - version_sets) (union_known s w sets tables r key l h)))
    (lt_or key version_sets))
    (λ j h.
    let p = set_stays s w sets tables r key l j h in
    rw (p.0, sets.names_stay (set_of w (first_slot key + j)) p.1))

pub distinct_untouched : (s w : List ℕ) → area tables_region s ≡ area tables_region w → (key : ℕ) → distinct_names s key ≡ distinct_names w key
unfolding set_count set_of
distinct_untouched s w e key =
    distinct-same s w key (rw (here union_sizes tt (key - version_sets)))
    (λ j h.
    rw (here union_sets tt (first_slot key + j - version_sets), here set_names tt (set_of w (first_slot key + j))))
  where
    here : (a : Area) → T (within a tables_region) → (i : ℕ) → at a i s ≡ at a i w
    here a t i = at_same a tables_region s w t e i

-- A CONDITION'S LITERALS: as many as registering counts, and they stay where it is loaded
named-word : (condition : ℕ) → condition_named (condition_word condition) ≡ condition
unfolding condition_named condition_word
named-word condition =
    ⊎_elim
    (λ (z : condition ≡ last_word). rw (eq-eqb condition last_word z) (sym z))
    (λ (z : condition ≡ last_word → ⊥). rw (ne_eqb condition last_word z, ne_eqb (condition + 1) 0 (omega arith)) (omega arith))
    (eq_or condition last_word)

pub stored_counted : (w : List ℕ) (condition : ℕ) → stored_literals w (condition_word condition) ≡ literal_count_of w condition
unfolding stored_literals
stored_counted w condition = ap (literal_count_of w) (named-word condition)

pub stored_stays : (s w : List ℕ) → LiteralsStay s w → (word : ℕ) → (word ≢ 0 → at disjunction_sizes (word - 1) w ≢ 0) →
    stored_literals s word ≡ stored_literals w word
unfolding stored_literals literal_count_of literals_of condition_named
stored_stays s w literals word h =
    ⊎_elim
    (λ (e : word ≡ 0). rw (eq-eqb word 0 e))
    (λ (e : word ≡ 0 → ⊥). rw (ne_eqb word 0 e, literals.spans_stay (word - 1) (h e)))
    (eq_or word 0)

pub stored_untouched : (s w : List ℕ) → area tables_region s ≡ area tables_region w → (word : ℕ) → stored_literals s word ≡ stored_literals w word
unfolding stored_literals literal_count_of literals_of
stored_untouched s w e word = rw (at_same disjunction_sizes tables_region s w tt e (condition_named word))

-- which are those that the walk reads
pub stored_read : (w : List ℕ) (word : ℕ) → word ≤ disjunctions → stored_literals w word ≡ length (literals_at w word)
unfolding stored_literals literal_count_of literals_of condition_named literals_at
stored_read w word h =
    ⊎_elim
    (λ (e : word ≡ 0). rw (eq-eqb word 0 e))
    (λ (e : word ≡ 0 → ⊥). rw (ne_eqb word 0 e, ne_eqb (word - 1) last_word (omega arith)) (sym (length_from (literal_at w) _ _)))
    (eq_or word 0)
