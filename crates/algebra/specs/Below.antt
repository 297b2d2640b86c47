-- Numbers below a bound, each but 0 its own code.
use Rattle.std.specs.Prelude.{◌≡◌, ℕ, ◌<◌, ◌≤◌, Ok, Err, Option, Result}
use Rattle.std.proofs.Math.Decide.{dec_lt}
use Rattle.algebra.specs.declared.interface.NoValue.{NoValue}
use Rattle.algebra.specs.declared.below.Below.{Below}
use Rattle.algebra.specs.Codes.{Codes, own_code, own_value, own_codes}

-- n itself, where it is below the bound, and otherwise a refusal
abbrev pub Numbered : (bound n : ℕ) → Result (Below bound) NoValue → Type 0
Numbered bound n (Ok x) = x.number ≡ n
Numbered bound n (Err e) = bound ≤ n

module _ (bound : ℕ) where
  abbrev pub number_of : Below bound → ℕ
  number_of x = x.number

  abbrev pub with_number : (n : ℕ) → n < bound → Below bound
  with_number n below = record { number = n; within = below }

  abbrev pub below_code : Below bound → Option ℕ
  below_code = own_code number_of bound with_number

  abbrev pub below_value : ℕ → Result (Below bound) NoValue
  below_value c = own_value number_of bound with_number c (dec_lt c bound)

  abbrev pub below_codes : (number width : ℕ) → Codes (Below bound)
  below_codes = own_codes number_of bound with_number
