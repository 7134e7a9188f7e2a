-- What `written` is, in other words: the values, and behind them what the output held there.
use mathlib.Core.List.{List, ◌++◌}
use mathlib.Core.Path.{◌≡◌, ◌∙◌, ap}
use Prim.Native.Nat.{ℕ, ◌≤◌}
use native.Mathlib.Nat.{zero-add}
use native.Mathlib.Omega.{arith}
use lib.ListN.{length, drop}
use lib.Seq.{sets-eq}
use Rattle.imbolaverk.specs.Written.{written}

pub written_is : (values old : List ℕ) → length values ≤ length old → written values old ≡ values ++ drop (length values) old
written_is values old h = sets-eq values old 0 (omega arith) ∙ ap (λ (k : ℕ). values ++ drop k old) (zero-add (length values))
