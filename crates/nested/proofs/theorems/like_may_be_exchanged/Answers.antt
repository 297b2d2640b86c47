use Rattle.nested.proofs.Weighing.{exchanged}
use Rattle.nested.proofs.theorems.like_may_be_exchanged.Goals as goal

pub returns : goal.returns
returns g c = exchanged g.met.S.Semiring.lawful
