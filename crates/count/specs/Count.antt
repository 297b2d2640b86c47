-- Count: the numbers modulo 65,521, with their sum and product. Each but 0 is its own code.
use Rattle.std.specs.Prelude.{ℕ, ◌+◌, ◌*◌, ◌%◌}
use Rattle.std.proofs.Common.{mod-lt, lit<}
use Rattle.algebra.specs.declared.below.Below.{Below}
use Rattle.algebra.specs.Semiring.{Ops}
use Rattle.algebra.specs.Codes.{Codes}
use Rattle.algebra.specs.Below.{below_codes}

abbrev pub modulus : ℕ
modulus = 65_521

abbrev pub Residue : Type 0
Residue = Below modulus

abbrev pub reduced : ℕ → Residue
reduced n = record { number = n % modulus; within = mod-lt n (lit< tt) }

abbrev pub counts : Ops Residue
counts = record {
  zero = reduced 0;
  one = reduced 1;
  plus = λ x y. reduced (x.number + y.number);
  times = λ x y. reduced (x.number * y.number);
}

abbrev pub count_codes : Codes Residue
count_codes = below_codes modulus 3 4
