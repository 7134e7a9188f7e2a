use Rattle.std.proofs.Common.{◌≡◌, drop}
use Rattle.store.specs.Shape.{every, up_to}
use Rattle.store.proofs.lent.all_upto.Given as goal

abbrev pub invariant-loop-x : goal.invariant-loop-x
invariant-loop-x l = every (up_to l.most) l.list ≡ every (up_to l.most) (drop l.x-index l.list)
