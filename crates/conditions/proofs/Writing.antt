-- Writing terms into lent lists, one behind the other. Assumes nothing.
use mathlib.Core.List.{List, [], ◌∷◌, ◌++◌}
use mathlib.Core.Path.{◌≡◌, refl, sym, ap, ◌∙◌}
use Prim.Native.Nat.{ℕ, suc, ◌+◌}
use native.Mathlib.Nat.{add-zero, add-suc, suc-add}
use native.Mathlib.Numerals.{add-one}
use lib.ListN.{length, set}
use lib.Seq.{sets}
use Rattle.conditions.specs.Dnf.{term_of}
use Rattle.conditions.specs.Steps.{cells_to, lengths_left, cells_left}

pub sets_append : (l : List ℕ) (i : ℕ) (a b : List ℕ) → sets l i (a ++ b) ≡ sets (sets l i a) (i + length a) b
sets_append l i [] b = ap (λ (k : ℕ). sets l k b) (sym (add-zero i))
sets_append l i (x ∷ a) b = sets_append (set l i x) (suc i) a b ∙ ap (λ (k : ℕ). sets (sets (set l i x) (suc i) a) k b) (suc-add i (length a) ∙ sym (add-suc i (length a)))

-- no term, and one more
pub lengths_none : (w : List ℕ) (c : ℕ) (l : List ℕ) → lengths_left w c l 0 ≡ l
unfolding lengths_left
lengths_none w c l = refl

pub lengths_more : (w : List ℕ) (c : ℕ) (l : List ℕ) (i : ℕ) → lengths_left w c l (i + 1) ≡ set (lengths_left w c l i) i (length (term_of w c i))
unfolding lengths_left
lengths_more w c l i = rw add-one

pub written_none : (w : List ℕ) (c : ℕ) (l : List ℕ) → cells_left w c l 0 ≡ l
unfolding cells_left
written_none w c l = refl

pub written_more : (w : List ℕ) (c : ℕ) (l : List ℕ) (i : ℕ) → cells_left w c l (i + 1) ≡ sets (cells_left w c l i) (cells_to w c i) (term_of w c i)
unfolding cells_left
written_more w c l i = rw add-one

pub ruleset writing = (lengths_none, lengths_more, written_none, written_more)
