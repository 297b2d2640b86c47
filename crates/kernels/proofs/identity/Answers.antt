use Rattle.std.proofs.Common.{arith, rules}
use Rattle.kernels.proofs.Loops.{all_rows}
use Rattle.kernels.proofs.identity.Goals as goal

pub returns : goal.returns
returns g c =
    all_rows g.S.Semiring.ops c.args.n c.fill.new.out _ (omega arith)
    (λ p hp q hq. let e = c.fill.ensures g.S.Semiring.ops.zero p q hp hq in search rules)
