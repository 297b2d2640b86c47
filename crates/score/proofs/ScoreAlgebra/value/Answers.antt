use Rattle.std.proofs.Common.{sym}
use Rattle.score.specs.Scores.{score_of_number}
use Rattle.score.proofs.ScoreAlgebra.value.Goals as goal

pub returns : goal.returns
returns c = sym (score_of_number _ _ _ c.in_ok-try_from.ensures)
