use Rattle.std.proofs.Common.{◌≡◌, ℕ, ◌<◌, ◌≤◌}
use Rattle.kernels.specs.Entries.{read}
use Rattle.kernels.proofs.add.Given as goal

abbrev pub invariant-loop-i : goal.invariant-loop-i
invariant-loop-i g l =
    let O = g.S.Semiring.ops in
    record {
      so_far : (k : ℕ) → k < l.i → read O l.out k ≡ O.plus (read O l.initial.out k) (read O l.x k);
      to_come : (k : ℕ) → l.i ≤ k → read O l.out k ≡ read O l.initial.out k;
    }
