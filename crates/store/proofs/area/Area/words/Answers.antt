use Rattle.std.proofs.Common.{◌≡◌, ◌+◌, ◌-◌, arith}
use Rattle.store.specs.Area.{area}
use Rattle.store.proofs.area.Area.words.Goals as goal

pub returns-clause-words : goal.returns-clause-words
unfolding area
returns-clause-words c = let e : c.args.self.base + c.args.self.size - c.args.self.base ≡ c.args.self.size = omega arith in rw e
