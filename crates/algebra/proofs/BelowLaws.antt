-- Numbers below a bound are equal where their numbers are, and their codes are one to one.
use Rattle.std.proofs.Common.{◌≡◌, ℕ, zero, suc, ◌^◌, ◌<◌, ◌≤◌, Ok, Err, Result, ◌≢◌, refl, ap, arith}
use mathlib.Core.HLevel.{is_prop→PathP}
use Rattle.std.proofs.Math.Bridge.{le_prop}
use Rattle.algebra.specs.declared.below.Below.{Below}
use Rattle.algebra.specs.declared.interface.NoValue.{NoValue}
use Rattle.algebra.specs.Below.{Numbered, number_of, with_number, below_value, below_codes}
use Rattle.algebra.specs.Codes.{Coded, own_value}
use Rattle.algebra.proofs.OwnCodes.{own_coded, own_value_at, code_of_value}

-- the ghost field has one proof at most
pub below_path : {bound : ℕ} {x y : Below bound} → x.number ≡ y.number → x ≡ y
below_path {bound} {x} {y} e = λ i. record { number = e i; within = is_prop→PathP (λ j. e j < bound) (λ j. le_prop) x.within y.within i }

-- what a number above 0 converts to is the value of that code
pub own_value-numbered : (bound n : ℕ) (d : Dec (n < bound)) (r : Result (Below bound) NoValue) → Numbered bound n r → 0 < n
    → r ≡ own_value (number_of bound) bound (with_number bound) n d
own_value-numbered bound zero d r numbered some = absurd (omega arith)
own_value-numbered bound (suc n) (yes below) (Ok x) e some = ap Ok (below_path e)
own_value-numbered bound (suc n) (no beyond) (Ok x) e some = absurd (beyond (omega (arith, x.within)))
own_value-numbered bound (suc n) (yes below) (Err _) beyond some = absurd (omega arith)
own_value-numbered bound (suc n) (no beyond) (Err _) _ some = refl

pub below_coded : {bound : ℕ} (nothing : Below bound) (number width : ℕ) → nothing.number ≡ 0 → number < 256 → 1 ≤ width → width ≤ 4 → bound ≤ 256 ^ width
    → Coded nothing (below_codes bound number width)
below_coded {bound} nothing number width none fits some few wide =
    own_coded (number_of bound) bound (with_number bound) (λ x y. below_path) (λ c below. refl)
    nothing number width (λ x. x.within) none fits some few wide

-- each number but 0 is its own code
pub below_value_at : {bound : ℕ} (x : Below bound) → x.number ≢ 0 → below_value bound x.number ≡ Ok x
below_value_at {bound} x some =
    own_value_at (number_of bound) bound (with_number bound) (λ y z. below_path) (λ c below. refl)
    x x.number _ refl (omega arith) x.within

-- what has a code has one that is its number
pub below_value_number : {bound : ℕ} (x : Below bound) (c : ℕ) → below_value bound c ≡ Ok x → (x.number ≡ c) × (0 < c)
below_value_number {bound} x c e = code_of_value (number_of bound) bound (with_number bound) (λ y z. below_path) (λ c below. refl) c _ x e
