use Rattle.algebra.proofs.Lists.{lists_once}
use Rattle.algebra.proofs.theorems.lists_stand_once.Goals as goal

pub returns : goal.returns
returns g c = lists_once g.met.S.Semiring.lawful
