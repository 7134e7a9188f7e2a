use Rattle.std.proofs.Common.{◌≡◌, ◌-◌, length}
use Rattle.store.specs.Ranks.{moved}
use Rattle.store.proofs.area.Area.move_up.Given as goal

abbrev pub invariant-loop-i : goal.invariant-loop-i
invariant-loop-i l = (length l.s ≡ length l.initial.s) × (moved l.self l.from (l.to - l.from) l.initial.s ≡ moved l.self l.from (l.i - l.from) l.s)
