-- The table of a text, byte by byte.
use Rattle.std.proofs.Common.{◌≡◌, ℕ, ◌+◌, ◌<◌, List, length, get_or, take, ap, ◌∙◌}
use Rattle.std.proofs.lemmas.List.{map_more}
use Rattle.algebra.specs.Semiring.{Ops, Laws, product}
use Rattle.algebra.specs.Tables.{table_ops, table_times}
use Rattle.algebra.proofs.Sums.{product-append}
use Rattle.algebra.proofs.TableLaws.{table_laws}
use Rattle.kernels.specs.Entries.{product_entries}
use Rattle.kernels.proofs.Loops.{of_entries}
use Rattle.nested.specs.declared.token.Class.{Class}
use Rattle.nested.specs.Classes.{class_of}
use Rattle.walkthrough.specs.declared.sheet.Sheet.{Sheet}
use Rattle.walkthrough.specs.Weight.{class_entries, byte_table, text_table}

module _ {V : Type 0} {O : Ops V} (S : Laws O) (sheet : Sheet V) where
  -- one byte more
  pub text_more : (text : List ℕ) (i : ℕ) → i < length text
      → text_table O sheet (take (i + 1) text) ≡ table_times O (text_table O sheet (take i text)) (byte_table O sheet (get_or text i 0))
  text_more text i within =
      let L = table_laws S 2 in
      ap (product (table_ops O 2)) (map_more (byte_table O sheet) text i 0 within)
      ∙ product-append L _ _
      ∙ ap (table_times O (text_table O sheet (take i text))) (L.times_one (byte_table O sheet (get_or text i 0)))

  -- the same, by way of the entries
  pub entries_more : (text : List ℕ) (i : ℕ) (class : Class) (running table next : List V) → i < length text
      → class ≡ class_of (get_or text i 0) → table ≡ class_entries sheet class
      → running ≡ (text_table O sheet (take i text)).entries → next ≡ product_entries O 2 running table
      → next ≡ (text_table O sheet (take (i + 1) text)).entries
  entries_more text i class running table next within read chosen before made =
      let held = of_entries O (text_table O sheet (take i text)) in
      let more = text_more text i within in
      cc
