-- The literals of a condition, one after the other. Assumes nothing.
use Rattle.meaning.proofs.Reading.{literals-inside, literals_under_lem}
use mathlib.Core.Bool.{◌&&◌}
use mathlib.Core.List.{List}
use mathlib.Core.Path.{◌≡◌, refl, ap}
use Prim.Native.Nat.{ℕ, zero, suc, ◌+◌}
use Rattle.std.specs.List.{list_all, range_with_len}
use Rattle.meaning.specs.View.{literal_at}
use Rattle.rules.specs.Walk.{literal_false, all_false}
use Rattle.rules.specs.declared.Value.{Value}
use Rattle.rules.specs.Numbers.{from}

-- the literals of a run, one after the other
pub all_false_is : (a : ℕ → Value) (w : List ℕ) (start n : ℕ) → list_all (λ i. literal_false a (literal_at w i)) (range_with_len start n) ≡ all_false a (from (literal_at w) start n)
unfolding all_false from
all_false_is a w start zero = refl
all_false_is a w start (suc n) = ap (λ b. literal_false a (literal_at w start) && b) (all_false_is a w (start + 1) n)

-- for those of a condition
pub ruleset literals = (literals-inside, literals_under_lem)
