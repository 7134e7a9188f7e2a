-- What a store holds once a table is written into it: its lists, and all that was there. Assumes nothing.
use mathlib.Core.Bool.{true}
use mathlib.Core.List.{List}
use mathlib.Core.Logic.{◌≢◌}
use mathlib.Core.Path.{◌≡◌, ◌∙◌}
use Prim.Native.Nat.{ℕ, ◌+◌, ◌≤◌, ◌<◌}
use native.Mathlib.Omega.{arith}
use lib.Dec.{T}
use lib.ListN.{length, get_or, take}
use Rattle.requirement.proofs.ListLaws.{length_lists, area-lists_kept, at-lists_kept, NoneOf, start_else, length_else, start-at, length_at, ranged-lists}
use Rattle.requirement.specs.Load.{total, Roomy, put_lists, table_at}
use Rattle.requirement.specs.Tables.{first_slot}
use Rattle.store.proofs.AreaLaws.{length_put, at-put-same, at-put_else, area_kept, at_kept}
use Rattle.store.proofs.Runs.{length_run, area-run_kept, at-run_kept, at-run-before, at-run-behind, at-run, ranged-run}
use Rattle.store.proofs.Soundness.{ranged-put}
use Rattle.store.specs.declared.area.Area.{Area}
use Rattle.store.specs.Area.{area, at, put, put_run, apart}
use Rattle.store.specs.Layout.{union_sizes, tables_loaded, list_starts, list_lengths, candidates, words}
use Rattle.store.specs.Limits.{cell_room, last_variable}
use Rattle.store.specs.Shape.{every, up_to, Ranged}

-- a store s that holds a table which w has not
pub record Held (w s : List ℕ) (key place : ℕ) (lengths cells : List ℕ) : Type 0 where
  pub size : length s ≡ length w
  pub sizes : (i : ℕ) → at union_sizes i s ≡ at union_sizes i w
  pub starts_at : (j : ℕ) → j < length lengths → at list_starts (first_slot key + j) s ≡ place + total (take j lengths)
  pub lengths_at : (j : ℕ) → j < length lengths → at list_lengths (first_slot key + j) s ≡ get_or lengths j 0
  pub starts_else : (i : ℕ) → NoneOf (first_slot key) (length lengths) i → at list_starts i s ≡ at list_starts i w
  pub lengths_else : (i : ℕ) → NoneOf (first_slot key) (length lengths) i → at list_lengths i s ≡ at list_lengths i w
  pub cells_at : (i : ℕ) → i < length cells → at candidates (place + i) s ≡ get_or cells i 0
  pub cells_before : (i : ℕ) → i < place → at candidates i s ≡ at candidates i w
  pub cells_behind : (i : ℕ) → place + length cells ≤ i → at candidates i s ≡ at candidates i w
  pub marked : at tables_loaded key s ≡ 1
  pub marked_else : (k : ℕ) → k ≢ key → at tables_loaded k s ≡ at tables_loaded k w

-- the table, and then a count
module _ (w : List ℕ) (key place : ℕ) (lengths cells : List ℕ) (roomy : Roomy w key lengths cells) (fits : place + length cells ≤ cell_room) where
  abbrev run : List ℕ
  run = put_run candidates place cells w

  abbrev rows : List ℕ
  rows = put_lists (first_slot key) place lengths run

  run_long : words ≤ length run
  run_long = rw (length_run candidates place cells w) roomy.long

  rows_long : words ≤ length rows
  rows_long = rw (length_lists (first_slot key) place lengths run) run_long

  pub table-size : length (table_at key place lengths cells w) ≡ length w
  unfolding table_at
  table-size =
      length_put tables_loaded key 1 rows
      ∙ length_lists (first_slot key) place lengths run
      ∙ length_run candidates place cells w

  pub table_kept : (a : Area) → T (apart a candidates) → T (apart a list_starts) → T (apart a list_lengths) → T (apart a tables_loaded) → area a (table_at key place lengths cells w) ≡ area a w
  unfolding table_at
  table_kept a p q r t =
      area_kept a tables_loaded key 1 rows t roomy.key<
      ∙ area-lists_kept a (first_slot key) place lengths run q r roomy.slots
      ∙ area-run_kept a candidates place cells w p fits

  pub table-ranged : every (up_to last_variable) cells ≡ true → Ranged w → Ranged (table_at key place lengths cells w)
  unfolding table_at
  table-ranged e r =
      ranged-put tables_loaded 1 key 1 rows tt roomy.key< (omega arith)
      (ranged-lists (first_slot key) place lengths run roomy.slots (omega (arith, roomy.sum))
      (ranged-run candidates last_variable place cells w tt fits e r))

  marks : (a : Area) (i : ℕ) → T (apart a tables_loaded) → at a i (table_at key place lengths cells w) ≡ at a i rows
  unfolding table_at
  marks a i t = at_kept a tables_loaded key i 1 rows t roomy.key<

  in_cells : (i : ℕ) → at candidates i (table_at key place lengths cells w) ≡ at candidates i run
  in_cells i = marks candidates i tt ∙ at-lists_kept candidates (first_slot key) place lengths run i tt tt roomy.slots

  module _ (c : Area) (x : ℕ) (some : 0 < c.size) (p : T (apart union_sizes c)) (q : T (apart list_starts c)) (r : T (apart list_lengths c)) (t : T (apart candidates c)) (u : T (apart tables_loaded c)) where
    count : (a : Area) (i : ℕ) → T (apart a c) → at a i (put c 0 x (table_at key place lengths cells w)) ≡ at a i (table_at key place lengths cells w)
    count a i v = at_kept a c 0 i x (table_at key place lengths cells w) v some

    pub held : Held w (put c 0 x (table_at key place lengths cells w)) key place lengths cells
    unfolding table_at
    held =
        record {
          size = length_put c 0 x (table_at key place lengths cells w) ∙ table-size;
          sizes =
              λ i.
              count union_sizes i p
              ∙ marks union_sizes i tt
              ∙ at-lists_kept union_sizes (first_slot key) place lengths run i tt tt roomy.slots
              ∙ at-run_kept union_sizes candidates place cells w i tt fits;
          starts_at =
              λ j h.
              count list_starts (first_slot key + j) q
              ∙ marks list_starts (first_slot key + j) tt
              ∙ start-at (first_slot key) place lengths run j run_long roomy.slots h;
          lengths_at =
              λ j h.
              count list_lengths (first_slot key + j) r
              ∙ marks list_lengths (first_slot key + j) tt
              ∙ length_at (first_slot key) place lengths run j run_long roomy.slots h;
          starts_else =
              λ i f.
              count list_starts i q
              ∙ marks list_starts i tt
              ∙ start_else (first_slot key) place lengths run i roomy.slots f
              ∙ at-run_kept list_starts candidates place cells w i tt fits;
          lengths_else =
              λ i f.
              count list_lengths i r
              ∙ marks list_lengths i tt
              ∙ length_else (first_slot key) place lengths run i roomy.slots f
              ∙ at-run_kept list_lengths candidates place cells w i tt fits;
          cells_at = λ i h. count candidates (place + i) t ∙ in_cells (place + i) ∙ at-run candidates place cells w i (omega (arith, roomy.long)) fits h;
          cells_before = λ i h. count candidates i t ∙ in_cells i ∙ at-run-before candidates place cells w i fits h;
          cells_behind = λ i h. count candidates i t ∙ in_cells i ∙ at-run-behind candidates place cells w i fits h;
          marked = count tables_loaded key u ∙ at-put-same tables_loaded key 1 rows roomy.key< (omega (arith, rows_long));
          marked_else =
              λ k n.
              count tables_loaded k u
              ∙ at-put_else tables_loaded key k 1 rows roomy.key< n
              ∙ at-lists_kept tables_loaded (first_slot key) place lengths run k tt tt roomy.slots
              ∙ at-run_kept tables_loaded candidates place cells w k tt fits;
        }
