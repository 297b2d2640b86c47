-- What a loop has summed or written so far, and what it has in the end.
use Rattle.std.proofs.Common.{◌≡◌, ℕ, ◌+◌, ◌*◌, ◌<◌, ◌≤◌, List, length, take, drop, sym, refl, ap, ◌∙◌, ap₂, mul-le-mul_right, suc-mul, arith, length-take-le, length-drop, get_or-drop, get_or-take}
use Rattle.algebra.specs.Semiring.{Ops, Laws, sum_to}
use Rattle.algebra.specs.Tables.{Table, cell, filled}
use Rattle.algebra.proofs.Sums.{sum_below, times_sum}
use Rattle.algebra.proofs.TableLaws.{table_path, table_same, cell-filled}
use Rattle.kernels.specs.Entries.{read, table_of, sum_entries, value_between, row_by_column}

pub row_end : (n p : ℕ) → p < n → p * n + n ≤ n * n
row_end n p h = omega (arith, suc-mul p n, mul-le-mul_right n h)

pub place : (n p q : ℕ) → p < n → q < n → p * n + q < n * n
place n p q h l = omega (arith, row_end n p h)

-- row p of a table with n columns
abbrev pub row_of : {V : Type 0} → ℕ → ℕ → List V → List V
row_of n p xs = take n (drop (p * n) xs)

pub row_long : {V : Type 0} (n p : ℕ) (xs : List V) → p < n → length xs ≡ n * n → length (row_of n p xs) ≡ n
row_long n p xs h long = length-take-le n (drop (p * n) xs) (simp length-drop (omega (arith, row_end n p h)))

module _ {V : Type 0} (O : Ops V) where
  pub all_rows : (n : ℕ) (out : List V) (f : ℕ → ℕ → V) → length out ≡ n * n
      → ((i : ℕ) → i < n → (j : ℕ) → j < n → read O out (i * n + j) ≡ f i j) → out ≡ (filled O n f).entries
  all_rows n out f long made =
      let A : Table V n = record { entries = out; sized = long } in
      ap (λ (B : Table V n). B.entries) (table_same O A (filled O n f) (λ p q hp hq. made p hp q hq ∙ sym (cell-filled O n f p q hp hq)))

  pub cell_of : (n : ℕ) (xs : List V) (p q : ℕ) → p < n → q < n → cell O (table_of O n xs) p q ≡ read O xs (p * n + q)
  unfolding table_of
  cell_of n xs p q hp hq = cell-filled O n _ p q hp hq

  -- all of a sum, entry by entry
  pub sum_made : (n : ℕ) (xs ys out : List V) → length out ≡ n * n
      → ((k : ℕ) → k < n * n → read O out k ≡ O.plus (read O xs k) (read O ys k)) → out ≡ sum_entries O n xs ys
  sum_made n xs ys out long made = all_rows n out _ long (λ p hp q hq.
      made _ (place n p q hp hq) ∙ ap₂ O.plus (sym (cell_of n xs p q hp hq)) (sym (cell_of n ys p q hp hq)))

  pub held : (n : ℕ) (xs : List V) → length xs ≡ n * n → (table_of O n xs).entries ≡ xs
  unfolding table_of
  held n xs long = sym (all_rows n xs (λ p q. read O xs (p * n + q)) long (λ p hp q hq. refl))

  pub of_entries : {n : ℕ} (A : Table V n) → table_of O n A.entries ≡ A
  of_entries {n} A = table_path _ A (held n A.entries A.sized)

module _ {V : Type 0} {O : Ops V} (S : Laws O) where
  -- row p of xs, times what stands in ys at an offset and each stride from there on
  row_by : (n p offset stride : ℕ) (xs ys : List V) (g : ℕ → V) → p < n → ((r : ℕ) → r < n → read O ys (offset + r * stride) ≡ g r)
      → row_by_column O (row_of n p xs) ys offset stride n ≡ sum_to O n (λ r. O.times (cell O (table_of O n xs) p r) (g r))
  row_by n p offset stride xs ys g hp column = sum_below S n _ _ (λ r hr. ap₂ O.times
      (get_or-take n (drop (p * n) xs) r O.zero hr ∙ get_or-drop (p * n) xs r O.zero ∙ sym (cell_of O n xs p r hp hr))
      (column r hr))

  -- an entry of a product
  pub product_entry : (n p q : ℕ) (xs ys : List V) → p < n → q < n
      → row_by_column O (row_of n p xs) ys q n n ≡ sum_to O n (λ r. O.times (cell O (table_of O n xs) p r) (cell O (table_of O n ys) r q))
  product_entry n p q xs ys hp hq = row_by n p q n xs ys _ hp (λ r hr.
      let here : q + r * n ≡ r * n + q = omega arith in ap (read O ys) here ∙ sym (cell_of O n ys r q hr hq))

  -- start · table · finish, row by row
  pub value_by_rows : (n : ℕ) (start table finish : List V)
      → sum_to O n (λ p. O.times (read O start p) (row_by_column O (row_of n p table) finish 0 1 n)) ≡ value_between O n start table finish
  value_by_rows n start table finish = sum_below S n _ _ (λ p hp.
      ap (O.times (read O start p)) (row_by n p 0 1 table finish (read O finish) hp (λ q hq. ap (read O finish) (omega arith)))
      ∙ times_sum S n _ _ ∙ sum_below S n _ _ (λ q hq. sym (S.times_assoc _ _ _)))
