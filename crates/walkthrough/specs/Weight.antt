-- The weight of a text without tags: start, a table for each byte, finish.
use Rattle.std.specs.Prelude.{ℕ, List, map}
use Rattle.algebra.specs.Semiring.{Ops, product}
use Rattle.algebra.specs.Tables.{Table, table_ops, between}
use Rattle.kernels.specs.Entries.{table_of}
use Rattle.nested.specs.declared.token.Class.{Class}
use Rattle.nested.specs.declared.token.Class.TheVariants.{Space, Digit, Other}
use Rattle.nested.specs.Classes.{class_of}
use Rattle.walkthrough.specs.declared.sheet.Sheet.{Sheet}

-- the entries of the table of a class
abbrev pub class_entries : {V : Type 0} → Sheet V → Class → List V
class_entries sheet Space = sheet.space
class_entries sheet Digit = sheet.digit
class_entries sheet Other = sheet.other

module _ {V : Type 0} (O : Ops V) (sheet : Sheet V) where
  -- the table of a byte
  abbrev pub byte_table : ℕ → Table V 2
  byte_table b = table_of O 2 (class_entries sheet (class_of b))

  -- the product of the tables of the bytes, in their order
  abbrev pub text_table : List ℕ → Table V 2
  text_table bytes = product (table_ops O 2) (map byte_table bytes)

  abbrev pub plain_weight : List ℕ → V
  plain_weight bytes = between O sheet.start (text_table bytes) sheet.finish
