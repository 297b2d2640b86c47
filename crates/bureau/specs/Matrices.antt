-- 2 by 2 matrices over the field of two elements: they do not commute, and have zero divisors.
-- Each but the zero matrix has its bits as code, a lowest.
use Rattle.std.specs.Prelude.{ℕ, ◌<◌, Bool, true, false, not, [], ◌∷◌, slice_index_or}
use Rattle.algebra.specs.Semiring.{Ops}
use Rattle.algebra.specs.Codes.{Codes, own_codes}
use Rattle.algebra.specs.Bits.{bits, number}
use Rattle.verdict.specs.Verdict.{and}
use Rattle.bureau.specs.declared.matrix.Matrix.{Matrix}

abbrev pub xor : Bool → Bool → Bool
xor true y = not y
xor false y = y

-- the field of two elements
abbrev pub field : Ops Bool
field = record { zero = false; one = true; plus = xor; times = and }

abbrev pub matrix_plus : Matrix → Matrix → Matrix
matrix_plus x y = record {
  a = xor x.a y.a;
  b = xor x.b y.b;
  c = xor x.c y.c;
  d = xor x.d y.d;
}

abbrev pub matrix_times : Matrix → Matrix → Matrix
matrix_times x y = record {
  a = xor (and x.a y.a) (and x.b y.c);
  b = xor (and x.a y.b) (and x.b y.d);
  c = xor (and x.c y.a) (and x.d y.c);
  d = xor (and x.c y.b) (and x.d y.d);
}

abbrev pub matrices : Ops Matrix
matrices = record {
  zero = record { a = false; b = false; c = false; d = false };
  one = record { a = true; b = false; c = false; d = true };
  plus = matrix_plus;
  times = matrix_times;
}

abbrev pub matrix_number : Matrix → ℕ
matrix_number x = number (x.a ∷ x.b ∷ x.c ∷ x.d ∷ [])

abbrev pub matrix_with : (c : ℕ) → c < 16 → Matrix
matrix_with c below = record {
  a = slice_index_or (bits 4 c) 0 false;
  b = slice_index_or (bits 4 c) 1 false;
  c = slice_index_or (bits 4 c) 2 false;
  d = slice_index_or (bits 4 c) 3 false;
}

abbrev pub matrix_codes : Codes Matrix
matrix_codes = own_codes matrix_number 16 matrix_with 200 1
