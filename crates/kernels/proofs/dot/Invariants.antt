use Rattle.std.proofs.Common.{◌≡◌}
use Rattle.kernels.specs.Entries.{row_by_column}
use Rattle.kernels.proofs.dot.Given as goal

abbrev pub invariant-loop-r : goal.invariant-loop-r
invariant-loop-r g l = l.total ≡ row_by_column g.S.Semiring.ops l.xs l.ys l.offset l.stride l.r
