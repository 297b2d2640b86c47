use Rattle.std.proofs.Common.{sym, ◌∙◌, ap₂}
use Rattle.score.specs.Score.{score_times}
use Rattle.score.specs.Scores.{same}
use Rattle.score.proofs.ScoreSemiring.times.Goals as goal

pub returns : goal.returns
returns c = same c.min.ensures ∙ sym (ap₂ score_times c.in_ok-x.was c.in_ok-y.was)
