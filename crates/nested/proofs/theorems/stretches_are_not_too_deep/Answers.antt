use Rattle.nested.proofs.Depths.{stretch_not_too_deep}
use Rattle.nested.proofs.theorems.stretches_are_not_too_deep.Goals as goal

pub returns : goal.returns
returns c = stretch_not_too_deep
