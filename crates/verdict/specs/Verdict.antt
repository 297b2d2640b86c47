-- Verdict: no and yes. The sum is `or`, the product `and`; yes alone has a code, 1.
use Rattle.std.specs.Prelude.{ℕ, Bool, true, false, if◌then◌else◌, Some, None, Ok, Err, Option, Result, ◌==◌}
use Rattle.algebra.specs.declared.interface.NoValue.{NoValue}
use Rattle.algebra.specs.Semiring.{Ops}
use Rattle.algebra.specs.Codes.{Codes, no_value}

abbrev pub or : Bool → Bool → Bool
or true y = true
or false y = y

abbrev pub and : Bool → Bool → Bool
and true y = y
and false y = false

abbrev pub verdicts : Ops Bool
verdicts = record { zero = false; one = true; plus = or; times = and }

abbrev pub verdict_code : Bool → Option ℕ
verdict_code false = None
verdict_code true = Some 1

abbrev pub verdict_value : ℕ → Result Bool NoValue
verdict_value c = if c == 1 then Ok true else Err no_value

abbrev pub verdict_codes : Codes Bool
verdict_codes = record { number = 1; width = 1; code = verdict_code; value = verdict_value }
