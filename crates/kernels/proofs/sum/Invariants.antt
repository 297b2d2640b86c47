use Rattle.std.proofs.Common.{◌≡◌, ℕ, ◌<◌}
use Rattle.kernels.specs.Entries.{read}
use Rattle.kernels.proofs.sum.Given as goal

abbrev pub invariant-loop-i : goal.invariant-loop-i
invariant-loop-i g l = let O = g.S.Semiring.ops in (k : ℕ) → k < l.i → read O l.out k ≡ O.plus (read O l.x k) (read O l.y k)
