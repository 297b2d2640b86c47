-- The operations on bits go bit by bit.
use Rattle.std.specs.Prelude.{◌≡◌, ℕ, ◌/◌, ◌%◌, min, max, Bool, if◌then◌else◌, List, [], ◌∷◌, length, ◌==◌, bit_and, bit_or}
use Rattle.std.proofs.Common.{arith}
use Rattle.std.specs.Int.Bits.{and_step, or_step, and_zero_l, or_zero_l, or_zero_r}
use Rattle.algebra.specs.Bits.{bits, number}
use Rattle.algebra.proofs.BitLists.{low, rest}
use Rattle.verdict.specs.Verdict.{or, and}

-- bit by bit, the longer list's rest kept
abbrev pub ors : List Bool → List Bool → List Bool
ors [] ys = ys
ors (x ∷ xs) [] = x ∷ xs
ors (x ∷ xs) (y ∷ ys) = or x y ∷ ors xs ys

max_or : (x y : Bool) → max (if x then 1 else 0) (if y then 1 else 0) ≡ (if or x y then 1 else 0)
max_or x y = grind arith

pub or_number : (xs ys : List Bool) → bit_or (number xs) (number ys) ≡ number (ors xs ys)
or_number [] ys = or_zero_l (number ys)
or_number (x ∷ xs) [] = or_zero_r (number (x ∷ xs))
or_number (x ∷ xs) (y ∷ ys) =
    rw (or_step (number (x ∷ xs)) (number (y ∷ ys)), rest x (number xs), rest y (number ys), or_number xs ys)
    (rw (low x (number xs), low y (number ys), max_or x y) (omega arith))

-- bit by bit, as far as both lists go
abbrev pub ands : List Bool → List Bool → List Bool
ands [] ys = []
ands (x ∷ xs) [] = []
ands (x ∷ xs) (y ∷ ys) = and x y ∷ ands xs ys

min_and : (x : Bool) (n : ℕ) → min (if x then 1 else 0) (n % 2) ≡ (if and x (n % 2 == 1) then 1 else 0)
min_and x n = grind arith

pub and_bits : (mask : List Bool) (n : ℕ) → bit_and (number mask) n ≡ number (ands mask (bits (length mask) n))
and_bits [] n = and_zero_l n
and_bits (x ∷ xs) n =
    rw (and_step (number (x ∷ xs)) n, rest x (number xs), and_bits xs (n / 2))
    (rw (low x (number xs), min_and x n) (omega arith))
