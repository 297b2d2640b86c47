-- The trivial algebra: one value, which is zero and one, and has no code.
use Rattle.std.specs.Prelude.{None, Err}
use Rattle.algebra.specs.Semiring.{Ops}
use Rattle.algebra.specs.Codes.{Codes, no_value}

abbrev pub trivial_ops : Ops (Unit {0})
trivial_ops = record { zero = tt; one = tt; plus = λ x y. tt; times = λ x y. tt }

abbrev pub trivial_codes : Codes (Unit {0})
trivial_codes = record { number = 201; width = 1; code = λ v. None; value = λ c. Err no_value }
