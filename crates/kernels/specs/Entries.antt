-- Tables held as lists of their entries, row by row, as slices of weights hold them.
use Rattle.std.specs.Prelude.{◌≡◌, ℕ, ◌+◌, ◌*◌, List, length, slice_index_or}
use Rattle.algebra.specs.Semiring.{Ops, sum_to}
use Rattle.algebra.specs.Tables.{Table, filled, table_one, table_plus, table_times, between}

-- a list of so many entries
abbrev pub Long : {V : Type 0} → ℕ → List V → Type 0
Long n xs = length xs ≡ n

module _ {V : Type 0} (O : Ops V) where
  -- entry i of a list, and zero beyond its end
  abbrev pub read : List V → ℕ → V
  read xs i = slice_index_or xs i O.zero

  -- the n by n table with these entries
  unfoldable pub table_of : (n : ℕ) → List V → Table V n
  table_of n xs = filled O n (λ p q. read xs (p * n + q))

  abbrev pub identity_entries : ℕ → List V
  identity_entries n = (table_one O n).entries

  abbrev pub sum_entries : ℕ → List V → List V → List V
  sum_entries n xs ys = (table_plus O (table_of n xs) (table_of n ys)).entries

  abbrev pub product_entries : ℕ → List V → List V → List V
  product_entries n xs ys = (table_times O (table_of n xs) (table_of n ys)).entries

  -- start · table · finish
  abbrev pub value_between : ℕ → List V → List V → List V → V
  value_between n start table finish = between O start (table_of n table) finish

  -- a row times a column that begins at an offset of ys and goes on by a stride
  abbrev pub row_by_column : List V → List V → ℕ → ℕ → ℕ → V
  row_by_column xs ys offset stride n = sum_to O n (λ r. O.times (read xs r) (read ys (offset + r * stride)))

  -- a slice of n · n entries holds a table, and no entry is lost
  abbrev pub SlicesHoldTables : ℕ → Type 0
  SlicesHoldTables n = (xs : List V) → length xs ≡ n * n → (table_of n xs).entries ≡ xs
