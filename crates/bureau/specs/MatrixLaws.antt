-- The matrices of bits are a semiring, as the 2 by 2 tables over the field; and their codes are one to one.
use Rattle.std.specs.Prelude.{◌≡◌, Bool, false, List, [], ◌∷◌, slice_index_or, refl}
use Rattle.std.proofs.Common.{sym, ap, ◌∙◌, rules, lit<, lit≤}
use Rattle.algebra.specs.Semiring.{Laws}
use Rattle.algebra.specs.Codes.{Coded}
use Rattle.algebra.specs.Bits.{bits, number_below}
use Rattle.algebra.specs.Tables.{Table, filled}
use Rattle.algebra.proofs.BitLists.{bits-number, number-bits}
use Rattle.algebra.proofs.Embedding.{embedded}
use Rattle.algebra.proofs.OwnCodes.{own_coded}
use Rattle.algebra.proofs.TableLaws.{table_path, table_laws}
use Rattle.bureau.specs.declared.matrix.Matrix.{Matrix}
use Rattle.bureau.specs.Matrices.{field, matrices, matrix_number, matrix_with, matrix_codes}

field_laws : Laws field
field_laws = search rules

table : Matrix → Table Bool 2
table x = record { entries = x.a ∷ x.b ∷ x.c ∷ x.d ∷ []; sized = refl }

-- the matrix with these entries
matrix : List Bool → Matrix
matrix bs = record { a = slice_index_or bs 0 false; b = slice_index_or bs 1 false; c = slice_index_or bs 2 false; d = slice_index_or bs 3 false }

table_embeds : (x y : Matrix) → table x ≡ table y → x ≡ y
unfolding table matrix
table_embeds x y e = ap (λ t. matrix t.entries) e

pub matrix_laws : Laws matrices
unfolding table filled
matrix_laws = embedded table table_embeds (record {
  zero_kept = table_path _ _ refl;
  one_kept = table_path _ _ refl;
  plus_kept = λ x y. table_path _ _ refl;
  times_kept = λ x y. table_path _ _ refl;
}) (table_laws field_laws 2)

number_unique : (x y : Matrix) → matrix_number x ≡ matrix_number y → x ≡ y
unfolding table matrix
number_unique x y e = ap matrix (sym (bits-number (table x).entries) ∙ ap (bits 4) e ∙ bits-number (table y).entries)

pub matrix_coded : Coded matrices.zero matrix_codes
unfolding table
matrix_coded =
    own_coded matrix_number 16 matrix_with number_unique (λ c below. number-bits 4 c below)
    matrices.zero 200 1 (λ x. number_below (table x).entries) refl (lit< tt) (lit≤ tt) (lit≤ tt) (lit≤ tt)
