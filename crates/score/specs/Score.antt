-- Score: none, or up to a thousand million points. The sum is the larger, none least; the product adds the points
-- up to that cap, and is none if either is none. A score's code is its points.
use Rattle.std.specs.Prelude.{ℕ, ◌+◌, ◌<◌, min, max, Some, None, Ok, Err, Option, Result}
use Rattle.std.proofs.Common.{arith}
use Rattle.std.proofs.Math.Decide.{dec_lt}
use Rattle.algebra.specs.declared.interface.NoValue.{NoValue}
use Rattle.algebra.specs.declared.below.Below.{Below}
use Rattle.algebra.specs.Semiring.{Ops}
use Rattle.algebra.specs.Codes.{Codes, no_value}

abbrev pub most : ℕ
most = 1_000_000_000

abbrev pub Points : Type 0
Points = Below (most + 1)

pub larger_within : (a b : Points) → max a.number b.number < most + 1
larger_within a b = omega (arith, a.within, b.within)

pub capped_within : (n : ℕ) → min n most < most + 1
capped_within n = omega arith

abbrev pub larger : Points → Points → Points
larger a b = record { number = max a.number b.number; within = larger_within a b }

-- n points, or the most that there are
abbrev pub capped : ℕ → Points
capped n = record { number = min n most; within = capped_within n }

abbrev pub score_plus : Option Points → Option Points → Option Points
score_plus None y = y
score_plus (Some a) None = Some a
score_plus (Some a) (Some b) = Some (larger a b)

abbrev pub score_times : Option Points → Option Points → Option Points
score_times None y = None
score_times (Some a) None = None
score_times (Some a) (Some b) = Some (capped (a.number + b.number))

abbrev pub scores : Ops (Option Points)
scores = record { zero = None; one = Some (capped 0); plus = score_plus; times = score_times }

abbrev pub score_code : Option Points → Option ℕ
score_code None = None
score_code (Some a) = Some a.number

-- c points, where there are so many
abbrev pub score_of : (c : ℕ) → Dec (c < most + 1) → Result (Option Points) NoValue
score_of c (yes within) = Ok (Some (record { number = c; within = within }))
score_of c (no beyond) = Err no_value

abbrev pub score_codes : Codes (Option Points)
score_codes = record { number = 2; width = 4; code = score_code; value = λ c. score_of c (dec_lt c (most + 1)) }
