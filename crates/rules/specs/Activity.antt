-- "Activities are f32, compared as floats, zero at first"; 9: "an activity is NaN, infinite, or has its sign bit set (so also -0.0)".
use Rattle.std.specs.Prelude.{Option, Some, None, Bool, true, false, cond, ℕ, Float}
use Rattle.std.specs.Float.{nan, inf, fin, binary32}
use Rattle.std.specs.Float.Ieee.{to_bits}

-- the bits of the largest finite f32: up to them the sign is clear and the number finite
abbrev pub last_activity : ℕ
last_activity = 2139095039

-- finite, with the sign bit clear
unfoldable pub good : Float → Bool
good nan = false
good (inf s) = false
good (fin true m e) = false
good (fin false m e) = true

-- an activity is stored as its bits
unfoldable pub admitted : Float → Option ℕ
admitted x = cond (good x) (Some (to_bits binary32 x)) None
