use Rattle.std.proofs.Common.{◌<◌, sym, subst}
use Rattle.turn.specs.Turn.{turns}
use Rattle.turn.specs.Turns.{same, composition}
use Rattle.turn.proofs.TurnSemiring.times.Goals as goal

pub invariant_of-result : goal.invariant_of-result
invariant_of-result c =
    let e = composition c.args.a c.args.b _ _ _ c.cross-by_0.ensures c.cross-by_1.ensures c.cross-by_2.ensures in
    record { nine = subst (λ n. n < 512) (sym e) (turns.times c.args.a c.args.b).nine }

pub returns : goal.returns
returns c = same (composition c.args.a c.args.b _ _ _ c.cross-by_0.ensures c.cross-by_1.ensures c.cross-by_2.ensures)
