-- Square tables of values, row by row, and the walks through a list of them.
use Rattle.std.specs.Prelude.{◌≡◌, ℕ, ◌+◌, ◌*◌, ◌/◌, ◌%◌, if◌then◌else◌, List, [], ◌∷◌, map, length, ◌==◌, slice_index_or}
use Rattle.std.specs.List.{range_with_len}
use Rattle.std.proofs.lemmas.List.FromFn.{length-map-range_with_len}
use Rattle.algebra.specs.Semiring.{Ops, sum_to}

-- n rows of n entries, one row after the other
pub record Table (V : Type 0) (n : ℕ) : Type 0 where
  pub entries : List V
  pub sized : length entries ≡ n * n

module _ {V : Type 0} (O : Ops V) where
  -- the entry of row p and column q
  abbrev pub cell : {n : ℕ} → Table V n → ℕ → ℕ → V
  cell {n} A p q = slice_index_or A.entries (p * n + q) O.zero

  -- the table with f p q in row p and column q
  unfoldable pub filled : (n : ℕ) → (ℕ → ℕ → V) → Table V n
  filled n f = record {
    entries = map (λ i. f (i / n) (i % n)) (range_with_len 0 (n * n));
    sized = length-map-range_with_len (λ i. f (i / n) (i % n)) 0 (n * n);
  }

  abbrev pub table_zero : (n : ℕ) → Table V n
  table_zero n = filled n (λ p q. O.zero)

  -- the identity: one on the diagonal, zero elsewhere
  abbrev pub table_one : (n : ℕ) → Table V n
  table_one n = filled n (λ p q. if p == q then O.one else O.zero)

  abbrev pub table_plus : {n : ℕ} → Table V n → Table V n → Table V n
  table_plus {n} A B = filled n (λ p q. O.plus (cell A p q) (cell B p q))

  -- row by column
  abbrev pub table_times : {n : ℕ} → Table V n → Table V n → Table V n
  table_times {n} A B = filled n (λ p q. sum_to O n (λ r. O.times (cell A p r) (cell B r q)))

  abbrev pub table_ops : (n : ℕ) → Ops (Table V n)
  table_ops n = record { zero = table_zero n; one = table_one n; plus = table_plus; times = table_times }

  -- from state p through A, then through each table of As, to state q, by way of the inner states rs
  abbrev pub walk : {n : ℕ} → ℕ → Table V n → List (Table V n) → List ℕ → ℕ → V
  walk p A [] rs q = cell A p q
  walk p A (B ∷ Bs) [] q = O.zero
  walk p A (B ∷ Bs) (r ∷ rs) q = O.times (cell A p r) (walk r B Bs rs q)

  -- start · A · finish: the sum over each first state p and last state q
  abbrev pub between : {n : ℕ} → List V → Table V n → List V → V
  between {n} start A finish =
      sum_to O n (λ p. sum_to O n (λ q. O.times (O.times (slice_index_or start p O.zero) (cell A p q)) (slice_index_or finish q O.zero)))
