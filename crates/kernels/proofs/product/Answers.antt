use Rattle.std.proofs.Common.{arith, rules}
use Rattle.kernels.proofs.Loops.{all_rows, product_entry}
use Rattle.kernels.proofs.product.Goals as goal

pub returns : goal.returns
returns g c =
    let n = c.args.n in
    all_rows g.S.Semiring.ops n c.fill.new.out _ (omega arith) (λ p hp q hq.
    let e = c.fill.ensures g.S.Semiring.ops.zero p q hp hq in
    let entry = product_entry g.met.S.Semiring.lawful n p q c.args.x.now c.args.y.now hp hq in
    search rules)
