use Rattle.std.proofs.Common.{take, arith, length-take-le}
use Rattle.algebra.specs.Tables.{table_one}
use Rattle.places.proofs.Frames.{table_between}
use Rattle.places.proofs.identity.Goals as goal

pub returns-clause-made : goal.returns-clause-made
returns-clause-made g c =
    let O = g.S.Semiring.ops in
    let n = c.args.n in
    let w = c.args.w.now in
    table_between O n c.args.out (take c.args.out w) _ _ (table_one O n) (length-take-le c.args.out w (omega arith)) c.identity.ensures
