use Rattle.std.proofs.Common.{ℕ, ◌+◌, ◌*◌, ◌<◌, slice_index_or}
use Rattle.kernels.proofs.fill.Given as goal

abbrev pub invariant-loop-p : goal.invariant-loop-p
invariant-loop-p g l =
    (beyond : _) (i j : ℕ) → i < l.p → j < l.n → goal.F-post g l.f i j (slice_index_or l.out (i * l.n + j) beyond)

abbrev pub invariant-loop-q : goal.invariant-loop-q
invariant-loop-q g l =
    record {
      rows : (beyond : _) (i j : ℕ) → i < l.p → j < l.n → goal.F-post g l.f i j (slice_index_or l.out (i * l.n + j) beyond);
      row : (beyond : _) (j : ℕ) → j < l.q → goal.F-post g l.f l.p j (slice_index_or l.out (l.p * l.n + j) beyond);
    }
