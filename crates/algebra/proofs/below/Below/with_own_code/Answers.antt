use Rattle.std.proofs.Common.{arith}
use Rattle.algebra.proofs.BelowLaws.{own_value-numbered}
use Rattle.algebra.proofs.below.Below.with_own_code.Goals as goal

pub returns-in_default : goal.returns-in_default
returns-in_default g c = own_value-numbered _ _ _ _ c.try_from.ensures (omega arith)
