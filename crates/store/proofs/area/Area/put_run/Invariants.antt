use Rattle.std.proofs.Common.{◌≡◌, ◌+◌, length, drop}
use Rattle.store.specs.Area.{put_run}
use Rattle.store.proofs.area.Area.put_run.Given as goal

abbrev pub invariant-loop-i : goal.invariant-loop-i
invariant-loop-i l = (length l.s ≡ length l.initial.s) × (put_run l.self l.from l.list l.initial.s ≡ put_run l.self (l.from + l.i) (drop l.i l.list) l.s)
