use Rattle.std.proofs.Common.{◌≡◌, ◌+◌, ◌-◌, arith}
use Rattle.places.proofs.Frames.{table_moved}
use Rattle.places.proofs.copy.Goals as goal

pub returns-clause-made : goal.returns-clause-made
returns-clause-made g c =
    let O = g.S.Semiring.ops in
    let out = c.args.out in
    table_moved O c.args.n c.args.w.now _ c.args.x out (λ k h.
    let inside : out + k - out ≡ k = omega arith in
    rw inside at (c.copy_within.ensures.by_index.0 (out + k) O.zero (omega arith) (omega arith)))
