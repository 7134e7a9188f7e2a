use Rattle.std.proofs.Common.{◌≡◌, ◌+◌, ◌-◌, arith, take, drop, length}
use lib.Seq.{drop-drop}
use Rattle.store.proofs.AreaLaws.{length_area}
use Rattle.store.specs.Area.{area, blank}
use Rattle.store.proofs.area.Area.blank.Goals as goal

pub returns : goal.returns
unfolding blank area
returns c =
    let e : c.args.self.base + c.args.self.size - c.args.self.base ≡ c.args.self.size = omega arith in
    let n : length (take c.args.self.size (drop c.args.self.base c.args.s.now)) ≡ c.args.self.size = length_area c.args.self c.args.s.now c.requires in
    rw (c.fill.ensures.after (λ y h. h), e, n, drop-drop)
