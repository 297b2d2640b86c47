use Rattle.std.proofs.Common.{◌≡◌}
use Rattle.algebra.specs.Semiring.{sum_to}
use Rattle.kernels.specs.Entries.{read, row_by_column}
use Rattle.kernels.proofs.Loops.{row_of}
use Rattle.kernels.proofs.value.Given as goal

abbrev pub invariant-loop-p : goal.invariant-loop-p
invariant-loop-p g l =
    let O = g.S.Semiring.ops in
    l.total ≡ sum_to O l.p (λ p. O.times (read O l.start p) (row_by_column O (row_of l.n p l.table) l.finish 0 1 l.n))
