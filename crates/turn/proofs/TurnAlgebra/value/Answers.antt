use Rattle.std.proofs.Common.{sym, refl, ◌∙◌, arith}
use Rattle.algebra.proofs.BelowLaws.{below_value_number}
use Rattle.algebra.proofs.OwnCodes.{own_value_at}
use Rattle.turn.specs.Turns.{same}
use Rattle.turn.proofs.TurnAlgebra.value.Goals as goal

pub returns : goal.returns
returns c =
    let x = c.in_ok-number.field-0 in
    let n = below_value_number x c.args.code (sym c.with_own_code.ensures ∙ c.in_ok-number.was) in
    sym (own_value_at (λ y. y.bits) 512 (λ c below. record { bits = c; nine = below }) (λ y z. same) (λ c below. refl)
    _ c.args.code _ n.0 n.1 (omega (arith, n.0, x.within)))
