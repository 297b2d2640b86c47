use lib.Bits.{or_lt}
use Rattle.turn.specs.Turns.{same, union}
use Rattle.turn.proofs.TurnSemiring.plus.Goals as goal

pub invariant_of-result : goal.invariant_of-result
invariant_of-result c = record { nine = or_lt 9 c.args.a.bits c.args.b.bits c.args.a.nine c.args.b.nine }

pub returns : goal.returns
returns c = same (union c.args.a c.args.b)
