use Rattle.std.proofs.Common.{arith}
use Rattle.rules.proofs.FloatOrder.{order_eq, no_nan_bits}
use Rattle.rules.proofs.activity.same.Goals as goal

pub float_from_bits-result : goal.float_from_bits-result
float_from_bits-result c = no_nan_bits _ (omega arith)

pub float_from_bits-result-2 : goal.float_from_bits-result-2
float_from_bits-result-2 c = no_nan_bits _ (omega arith)

pub returns-clause-as_bits : goal.returns-clause-as_bits
returns-clause-as_bits c = order_eq _ _ (omega arith) (omega arith)
