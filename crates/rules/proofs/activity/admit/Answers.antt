use Rattle.std.proofs.Common.{sym, subst}
use lib.Dec.{T}
use lib.Ieee.Compare.{differs_from_itself}
use Rattle.rules.proofs.FloatOrder.{good-within, good-beyond, same_no_nan}
use Rattle.rules.specs.Activity.{good, admitted}
use Rattle.rules.proofs.activity.admit.Goals as goal

pub returns-then-x : goal.returns-then-x
unfolding admitted good
returns-then-x c = rw (differs_from_itself c.args.x (subst T (sym c.if-x.true) tt))

pub float_to_bits-bits : goal.float_to_bits-bits
float_to_bits-bits c = same_no_nan c.args.x c.if-x.false

pub returns-then-bits : goal.returns-then-bits
unfolding admitted
returns-then-bits c = rw (good-within c.args.x (subst T (sym c.well_formed.0.1) tt) c.if-bits.true)

pub returns : goal.returns
unfolding admitted
returns c = rw (good-beyond c.args.x (subst T (sym c.well_formed.0.1) tt) c.if-bits.false)
