use Rattle.std.proofs.Common.{refl}
use Rattle.score.specs.Scores.{same}
use Rattle.score.proofs.ScoreSemiring.one.Goals as goal

pub returns : goal.returns
returns c = same refl
