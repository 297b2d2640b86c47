use Rattle.nested.proofs.RunLists.{runs_once}
use Rattle.nested.proofs.theorems.runs_stand_once.Goals as goal

pub returns : goal.returns
returns g c = runs_once g.met.S.Semiring.lawful
