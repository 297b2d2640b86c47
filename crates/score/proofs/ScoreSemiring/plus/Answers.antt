use Rattle.std.proofs.Common.{sym, ◌∙◌, ap₂, arith}
use Rattle.score.specs.Score.{larger, score_plus}
use Rattle.score.specs.Scores.{same}
use Rattle.score.proofs.ScoreSemiring.plus.Goals as goal

pub returns-then-x-y : goal.returns-then-x-y
returns-then-x-y c =
    same {b = larger c.in-Some.x c.in-Some-b.y} (omega arith) ∙ sym (ap₂ score_plus c.in-Some.is c.in-Some-b.is)

pub returns-else-x-y : goal.returns-else-x-y
returns-else-x-y c =
    same {b = larger c.in-Some.x c.in-Some-b.y} (omega arith) ∙ sym (ap₂ score_plus c.in-Some.is c.in-Some-b.is)
