use Rattle.std.proofs.Common.{◌≡◌, ◌-◌}
use Rattle.rules.specs.Numbers.{all_from}
use Rattle.settings.specs.Settings.{quiet}
use Rattle.store.specs.Limits.{names}
use Rattle.settings.proofs.tuning.Change.all_quiet.Given as goal

abbrev pub invariant-loop-n : goal.invariant-loop-n
invariant-loop-n l = all_from (quiet l.s l.self.name l.self.bits) 0 names ≡ all_from (quiet l.s l.self.name l.self.bits) l.n (names - l.n)
