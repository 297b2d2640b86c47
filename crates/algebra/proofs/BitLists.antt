-- Numbers and lists of bits undo each other.
use Rattle.std.proofs.Common.{◌≡◌, ℕ, zero, suc, ◌+◌, ◌*◌, ◌/◌, ◌%◌, ◌^◌, ◌<◌, ◌==◌, Bool, true, false, if◌then◌else◌, List, [], ◌∷◌, length, refl, arith}
use native.Mathlib.Nat.{pow-succ'}
use Rattle.algebra.specs.Bits.{bits, number}

pub low : (b : Bool) (n : ℕ) → ((if b then 1 else 0) + 2 * n) % 2 ≡ (if b then 1 else 0)
low b n = grind arith

pub rest : (b : Bool) (n : ℕ) → ((if b then 1 else 0) + 2 * n) / 2 ≡ n
rest b n = grind arith

pub low_bit : (n : ℕ) → (if n % 2 == 1 then 1 else 0) ≡ n % 2
low_bit n = grind arith

pub bits-number : (bs : List Bool) → bits (length bs) (number bs) ≡ bs
bits-number [] = refl
bits-number (true ∷ bs) = simp (low true, rest true, bits-number bs)
bits-number (false ∷ bs) = simp (low false, rest false, bits-number bs)

pub number-bits : (k n : ℕ) → n < 2 ^ k → number (bits k n) ≡ n
number-bits zero n h = omega arith
number-bits (suc k) n h = let p = pow-succ' 2 k in let r = number-bits k (n / 2) (omega (arith, p)) in grind arith
