-- The residues are a semiring, and their codes are one to one.
use Rattle.std.specs.Prelude.{◌≡◌, ℕ, ◌%◌, Ok, ◌≢◌, refl}
use Rattle.std.proofs.Common.{sym, ap, ◌∙◌, add_assoc, add_comm, add-zero, mul_assoc, one-mul, mul-one, mul-add, add-mul, zero-mul, mul-zero, mod-eq_of_lt, lit<, lit≤}
use Rattle.std.proofs.lemmas.Nat.{mul-mod_first, mul-mod_second}
use Rattle.std.proofs.Math.Nat.{mod-add-mod, add-mod-mod, add-mod}
use Rattle.algebra.specs.Semiring.{Laws}
use Rattle.algebra.specs.Codes.{Coded}
use Rattle.algebra.proofs.BelowLaws.{below_path, below_coded, below_value_at}
use Rattle.count.specs.Count.{Residue, modulus, reduced, counts, count_codes}

-- equal numbers have equal residues
modulo : (m : ℕ) {a b : ℕ} → a ≡ b → a % m ≡ b % m
modulo m e = ap (λ (n : ℕ). n % m) e

pub count_laws : Laws counts
count_laws = record {
  plus_assoc = λ x y z. below_path (mod-add-mod _ _ _ ∙ modulo modulus (add_assoc _ _ _) ∙ sym (add-mod-mod x.number _ _));
  plus_comm = λ x y. below_path (modulo modulus (add_comm _ _));
  plus_zero = λ x. below_path (modulo modulus (add-zero _) ∙ mod-eq_of_lt x.within);
  times_assoc = λ x y z. below_path (mul-mod_first _ _ _ ∙ modulo modulus (mul_assoc _ _ _) ∙ sym (mul-mod_second x.number _ _));
  one_times = λ x. below_path (modulo modulus (one-mul _) ∙ mod-eq_of_lt x.within);
  times_one = λ x. below_path (modulo modulus (mul-one _) ∙ mod-eq_of_lt x.within);
  times_plus = λ x y z. below_path (mul-mod_second _ _ _ ∙ modulo modulus (mul-add _ _ _) ∙ add-mod _ _ _);
  plus_times = λ x y z. below_path (mul-mod_first _ _ _ ∙ modulo modulus (add-mul _ _ _) ∙ add-mod _ _ _);
  zero_times = λ x. below_path (modulo modulus (zero-mul _));
  times_zero = λ x. below_path (modulo modulus (mul-zero _));
}

pub count_coded : Coded (reduced 0) count_codes
count_coded = below_coded (reduced 0) 3 4 refl (lit< tt) (lit≤ tt) (lit≤ tt) (lit≤ tt)

pub count_value_at : (x : Residue) → x.number ≢ 0 → count_codes.value x.number ≡ Ok x
count_value_at x some = below_value_at x some
