-- DOCUMENT 01'S CASES P1 TO P12 ON THE WORDS: the scripts, run by the calls' own definitions from a fresh store, answer what they must.
-- Computed: P1, P3, P10, P11 and P12 from fresh, and from the words that P3 leaves the rest of P5, P7, P8 and P9; the others are heads
-- of these. Assumes nothing.
use mathlib.Core.List.{List, [], ◌∷◌, ◌++◌, map}
use mathlib.Core.Path.{◌≡◌, refl, ap, sym, ◌∙◌}
use Prim.Native.Nat.{ℕ}
use native.Mathlib.Omega.{arith}
use lib.ListN.{drop, get_or, length, length-replicate, replicate}
use Rattle.promises.proofs.Calling.{run_genuine}
use Rattle.promises.proofs.Genuine.{Genuine}
use Rattle.promises.proofs.Starting.{fresh_genuine}
use Rattle.imbolaverk.specs.Calls.{Call, left_by, number_of, run, values_of}
use Rattle.promises.specs.Scripts.{Line, answers, calls, expected, p1, p2, p3, p4, p5, p6, p7, p8, p9, p10, p11, p12, scripts, start}
use Rattle.store.specs.Layout.{words}
use Rattle.clauses.specs.Names.{other_name, new_name, name_count, new_names, distinct_names}
use Rattle.clauses.specs.Register.{known_condition, condition_word, literal_count_of, all_named, has_room, queued_mark, record_in, registered, register_tests}
use Rattle.conditions.specs.Dnf.{prefixed, cross, node_terms, dnf, linked}
use Rattle.conditions.specs.Rewrite.{too_much, rewrite_sound_lengths, rewrite_sound_cells, rewrite_tests}
use Rattle.meaning.specs.Standing.{of_clause, cache_by, cache_of, mark_of}
use Rattle.meaning.specs.View.{list_at, lists_at, literal_at, literals_at}
use Rattle.examine.specs.Cache.{cached, saved, finding_at, filled}
use Rattle.promises.proofs.Stepping.{Ran, ran, run_is, run_in, step_in}
use Rattle.proposal.specs.Propose.{answer, proposal_answer, proposal_left, unsynced}
use Rattle.requirement.specs.Copy.{tabled}
use Rattle.requirement.specs.Load.{adds, known, fitting, put_lists, table_at, loaded_single, loaded_union, loaded as table_made, load_tests}
use Rattle.requirement.specs.Tables.{requirement_of, first_slot, set_count, list_count, set_of, cells_of}
use Rattle.rules.specs.Store.{behind}
use Rattle.rules.specs.Queue.{examine, queued_turn}
use Rattle.rules.specs.Sync.{meets, mentions}
use Rattle.rules.specs.Walk.{member, all_false, flattened, first_that, count_undecided, frontier, evaluate, largest, any_hot, up_to}
use Rattle.rules.specs.Activity.{good, admitted}
use Rattle.settings.specs.Settings.{activity_with, quiet, activity_tests}
use Rattle.store.specs.Area.{area, at, put, put_run, blank}
use Rattle.store.specs.Fresh.{fresh_words, fresh_row}
use Rattle.store.specs.Lent.{lengths_of, joined, over}
use Rattle.rules.specs.Numbers.{all_from, from}
use Rattle.store.specs.Ranks.{moved, inserted}
use Rattle.store.specs.Shape.{every}
use Rattle.sync.specs.Sweep.{sweep}
use Rattle.sync.specs.Sync.{old_entries, new_entries, touched_in, touches_in, wakes_at, spoils_at, woken_words, spoiled_words, swept_words, copied_words, mirrored_words, sync_left}
use Rattle.tables.specs.Loaded.{loaded}
use Rattle.tables.specs.Condition.{leafed, branched, node_put, load_condition_tests}
use Rattle.tables.specs.Disjunction.{literals_of}
use Rattle.tables.specs.VersionSet.{load_version_set_tests}
use Rattle.trail.specs.Assign.{assign_on, pushed, assign_tests}
use Rattle.trail.specs.Cell.{cell_value, cell_side, cell_level, cell_of}
use Rattle.trail.specs.Entries.{decision_at, level_at, level_of_last, entry_above}
use Rattle.trail.specs.UndoLast.{popped, undo_last_tests}
use Rattle.trail.specs.UndoUntil.{popped_to, cleared, no_stop, undo_until_tests}
use lib.Ieee.{odd, of_fields, of_bits, to_bits, size, climb, span}
use Rattle.trail.specs.Assignment.{assigned}

-- a script's calls answer what they must
abbrev Says : List ℕ → List Line → Type 0
Says w s = answers w (calls s) ≡ expected s

answers_on : (w : List ℕ) (cs ds : List Call) → answers w (cs ++ ds) ≡ answers w cs ++ answers (run w cs) ds
unfolding answers run
answers_on w [] ds = refl
answers_on w (c ∷ cs) ds = ap (λ (a : List (List ℕ)). (number_of w c ∷ values_of w c) ∷ a) (answers_on (left_by w c) cs ds)

calls_on : (s t : List Line) → calls (s ++ t) ≡ calls s ++ calls t
calls_on [] t = refl
calls_on (l ∷ s) t = ap (λ (cs : List Call). l.call ∷ cs) (calls_on s t)

expected_on : (s t : List Line) → expected (s ++ t) ≡ expected s ++ expected t
expected_on [] t = refl
expected_on (l ∷ s) t = ap (λ (a : List (List ℕ)). l.answer ∷ a) (expected_on s t)

-- a script, and another on the words that it leaves
then_says : (w : List ℕ) (s t : List Line) → Says w s → Says (run w (calls s)) t → Says w (s ++ t)
then_says w s t a b = ap (answers w) (calls_on s t) ∙ answers_on w (calls s) (calls t) ∙ (λ i. a i ++ b i) ∙ sym (expected_on s t)

-- the head of a script
head_says : (w : List ℕ) (s t : List Line) → Says w (s ++ t) → Says w s
unfolding answers
head_says w [] t h = refl
head_says w (l ∷ s) t h =
    λ i.
    ap (λ (a : List (List ℕ)). get_or a 0 []) h i
    ∷ head_says (left_by w l.call) s t (ap (λ (a : List (List ℕ)). drop 1 a) h) i

-- the fresh store, and P3 on it, with no shape to compute
abbrev first : List ℕ
first = fresh_words (replicate words 0)

abbrev third : Ran
third = run_in first (calls p3)

start_is : start ≡ first
unfolding start fresh_row
start_is = refl

start_genuine : Genuine start
unfolding start
start_genuine = fresh_genuine (replicate words 0) (rw (length-replicate {A = ℕ} words 0) (omega arith))

third-is : ran (answers start (calls p3)) (run start (calls p3)) ≡ third
third-is = run_is start start_genuine (calls p3) ∙ ap (λ (w : List ℕ). run_in w (calls p3)) start_is

-- each of some scripts, on the same words
abbrev each : List ℕ → List (List Line) → List (List (List ℕ))
each w ss = map (λ (s : List Line). answers w (calls s)) ss

abbrev each_in : List ℕ → List (List Line) → List (List (List ℕ))
each_in w ss = map (λ (s : List Line). (run_in w (calls s)).said) ss

each-is : (w u : List ℕ) → Genuine w → w ≡ u → (ss : List (List Line)) → each w ss ≡ each_in u ss
each-is w u g e [] = refl
each-is w u g e (s ∷ ss) =
    λ i.
    (ap (λ (r : Ran). r.said) (run_is w g (calls s)) ∙ ap (λ (v : List ℕ). (run_in v (calls s)).said) e) i ∷ each-is w u g e ss i

-- THE COMPUTATIONS: scripts from fresh; P3 from fresh, and what others have behind it
abbrev alone : List (List Line)
alone = p1 ∷ p10 ∷ p11 ∷ p12 ∷ []

abbrev beyond : List Line → List Line
beyond s = drop (length p3) s

abbrev onward : List (List Line)
onward = beyond p5 ∷ beyond p7 ∷ beyond p8 ∷ beyond p9 ∷ []

unfoldable onward_of : Ran → List (List (List ℕ))
onward_of r = r.said ∷ each_in r.left onward

computed : (each_in first alone ≡ map expected alone) × (onward_of third ≡ map expected (p3 ∷ onward))
unfolding other_name new_name name_count new_names distinct_names known_condition condition_word literal_count_of all_named has_room register_tests queued_mark record_in registered behind prefixed cross node_terms dnf linked lengths_of joined too_much rewrite_tests over rewrite_sound_lengths rewrite_sound_cells of_clause cache_by cache_of mark_of assigned from list_at lists_at literal_at literals_at cached saved finding_at filled proposal_answer proposal_left run_in step_in answer unsynced tabled adds known fitting load_tests put_lists table_at loaded_single loaded_union table_made requirement_of first_slot set_count list_count set_of cells_of examine queued_turn up_to mentions meets member all_false flattened first_that count_undecided frontier evaluate largest any_hot good admitted activity_with quiet activity_tests area at put put_run blank fresh_words all_from moved inserted every sweep old_entries new_entries touched_in touches_in wakes_at spoils_at woken_words spoiled_words swept_words copied_words mirrored_words sync_left loaded load_condition_tests leafed branched node_put literals_of load_version_set_tests assign_on assign_tests pushed cell_value cell_side cell_level cell_of decision_at level_at level_of_last entry_above popped undo_last_tests popped_to cleared no_stop undo_until_tests odd of_fields of_bits to_bits size climb span onward_of
computed = (refl, refl)

alone_say : each start alone ≡ map expected alone
alone_say = each-is start first start_genuine start_is alone ∙ computed.0

onward_say : answers start (calls p3) ∷ each (run start (calls p3)) onward ≡ map expected (p3 ∷ onward)
unfolding onward_of
onward_say =
    ap (λ (a : List (List (List ℕ))). answers start (calls p3) ∷ a)
    (each-is (run start (calls p3)) (run start (calls p3)) (run_genuine start (calls p3) start_genuine) refl onward)
    ∙ ap onward_of third-is
    ∙ computed.1

-- the answers of one script of a list
abbrev nth : ℕ → List (List (List ℕ)) → List (List ℕ)
nth k a = get_or a k []

p3_says : Says start p3
p3_says = ap (nth 0) onward_say

p5_says : Says start p5
p5_says = then_says start p3 (beyond p5) p3_says (ap (nth 1) onward_say)

p7_says : Says start p7
p7_says = then_says start p3 (beyond p7) p3_says (ap (nth 2) onward_say)

-- EVERY CASE OF DOCUMENT 01 MARKED P, ON THE WORDS
pub edges_are : map (λ (s : List Line). answers start (calls s)) scripts ≡ map expected scripts
edges_are =
    λ i.
    ap (nth 0) alone_say i
    ∷ head_says start p2 (drop (length p2) p3) p3_says i
    ∷ p3_says i
    ∷ head_says start p4 (drop (length p4) p5) p5_says i
    ∷ p5_says i
    ∷ head_says start p6 (drop (length p6) p7) p7_says i
    ∷ p7_says i
    ∷ then_says start p3 (beyond p8) p3_says (ap (nth 3) onward_say) i
    ∷ then_says start p3 (beyond p9) p3_says (ap (nth 4) onward_say) i
    ∷ ap (nth 1) alone_say i
    ∷ ap (nth 2) alone_say i
    ∷ ap (nth 3) alone_say i
    ∷ []
