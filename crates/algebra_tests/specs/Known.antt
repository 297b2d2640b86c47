-- Known results, computed from the definitions of the algebras.
use Rattle.std.specs.Prelude.{◌≡◌, ℕ, Some, None, Option, IsOkAnd}
use Rattle.algebra.specs.Codes.{Codes}
use Rattle.score.specs.Score.{scores, score_codes}
use Rattle.count.specs.Count.{counts, count_codes}
use Rattle.turn.specs.Turn.{turns, turn_codes}

-- the values with codes a and b give, under this operation, the value with code c, or zero for none
abbrev pub Gives : {V : Type 0} → Codes V → (V → V → V) → ℕ → ℕ → Option ℕ → Type 0
Gives C op a b c = IsOkAnd (C.value a) (λ left. IsOkAnd (C.value b) (λ right. C.code (op left right) ≡ c))

pub record KnownResults : Type 0 where
  pub score_caps : Gives score_codes scores.times 999_999_999 5 (Some 1_000_000_000)
  pub count_wraps : Gives count_codes counts.plus 65_520 1 None
  pub turn_composes : Gives turn_codes turns.times 2 32 (Some 4)
  pub turn_does_not_commute : Gives turn_codes turns.times 32 2 None
