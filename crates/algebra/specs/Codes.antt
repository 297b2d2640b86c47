-- The codes by which weights are written as bytes.
use Rattle.std.specs.Prelude.{◌≡◌, ℕ, zero, suc, ◌^◌, ◌<◌, ◌≤◌, if◌then◌else◌, Some, None, Ok, Err, Option, Result, ◌==◌}
use Rattle.std.proofs.Math.Decide.{dec_lt}
use Rattle.algebra.specs.declared.interface.NoValue.{NoValue}

-- the refusal of a code that no value has
abbrev pub no_value : NoValue
no_value = record {}

-- the algebra's number, the width of its codes in bytes, the code of a value, and the value of a code
pub record Codes (V : Type 0) : Type 0 where
  pub number : ℕ
  pub width : ℕ
  pub code : V → Option ℕ
  pub value : ℕ → Result V NoValue

-- the value with a code, or zero for none
abbrev pub weight_of : {V : Type 0} → V → Codes V → Option ℕ → Result V NoValue
weight_of none C None = Ok none
weight_of none C (Some c) = C.value c

-- every value but zero has one code, which fits the width and which no other value has
pub record Coded {V : Type 0} (zero : V) (C : Codes V) : Type 0 where
  pub number_fits : C.number < 256
  pub width_some : 1 ≤ C.width
  pub width_few : C.width ≤ 4
  pub zero_has_none : C.code zero ≡ None
  pub none_but_zero : (v : V) → C.code v ≡ None → v ≡ zero
  pub code_fits : (v : V) (c : ℕ) → C.code v ≡ Some c → c < 256 ^ C.width
  pub value_of_code : (v : V) (c : ℕ) → C.code v ≡ Some c → C.value c ≡ Ok v
  pub code_of_value : (c : ℕ) (v : V) → C.value c ≡ Ok v → C.code v ≡ Some c

-- codes for values that stand for the numbers below a bound: each number but 0 is its own code
module _ {V : Type 0} (number_of : V → ℕ) (bound : ℕ) (with_number : (c : ℕ) → c < bound → V) where
  abbrev pub own_code : V → Option ℕ
  own_code v = if number_of v == 0 then None else Some (number_of v)

  abbrev pub own_value : (c : ℕ) → Dec (c < bound) → Result V NoValue
  own_value zero below = Err no_value
  own_value (suc c) (yes below) = Ok (with_number (suc c) below)
  own_value (suc c) (no beyond) = Err no_value

  abbrev pub own_codes : (number width : ℕ) → Codes V
  own_codes number width = record { number = number; width = width; code = own_code; value = λ c. own_value c (dec_lt c bound) }
