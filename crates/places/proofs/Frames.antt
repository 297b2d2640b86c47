-- Tables within a list, and what a write leaves of it.
use Rattle.std.proofs.Common.{ap₂, ◌≡◌, ℕ, ◌+◌, ◌-◌, ◌*◌, ◌<◌, ◌≤◌, List, ◌++◌, length, sym, refl, ◌∙◌, ap, inl, inr, arith, rules}
use Rattle.std.specs.List.{slice_range}
use Rattle.std.proofs.lemmas.List.{places}
use Rattle.algebra.specs.Semiring.{Ops}
use Rattle.algebra.specs.Tables.{Table, cell, filled, table_plus, table_times}
use Rattle.algebra.proofs.TableLaws.{table_same, cell-filled}
use Rattle.kernels.specs.Entries.{read, table_of, sum_entries, product_entries}
use Rattle.kernels.proofs.Loops.{place, cell_of}
use Rattle.places.specs.Places.{table_in, Kept, Apart}

-- parts of stretches that are apart
pub parts_apart : (x m y k x' m' y' k' : ℕ) → Apart x m y k → x ≤ x' → x' + m' ≤ x + m → y ≤ y' → y' + k' ≤ y + k → Apart x' m' y' k'
parts_apart x m y k x' m' y' k' (inl before) a b c d = inl (omega arith)
parts_apart x m y k x' m' y' k' (inr behind) a b c d = inr (omega arith)

module _ {V : Type 0} (O : Ops V) where
  pub cell_in : (n : ℕ) (w : List V) (x p q : ℕ) → p < n → q < n → cell O (table_in O n w x) p q ≡ read O w (x + (p * n + q))
  unfolding table_in
  cell_in n w x p q hp hq = cell-filled O n (λ i j. read O w (x + (i * n + j))) p q hp hq

  -- the table that is written entry by entry
  pub table_made : (n : ℕ) (w : List V) (x : ℕ) (f : ℕ → ℕ → V)
      → ((p q : ℕ) → p < n → q < n → read O w (x + (p * n + q)) ≡ f p q) → table_in O n w x ≡ filled O n f
  table_made n w x f made =
      table_same O _ _ (λ p q hp hq. cell_in n w x p q hp hq ∙ made p q hp hq ∙ sym (cell-filled O n f p q hp hq))

  -- the same entries, from y on
  pub table_moved : (n : ℕ) (w w' : List V) (x y : ℕ) → ((k : ℕ) → k < n * n → read O w' (y + k) ≡ read O w (x + k)) → table_in O n w' y ≡ table_in O n w x
  table_moved n w w' x y same =
      table_same O _ _ (λ p q hp hq. cell_in n w' y p q hp hq ∙ same (p * n + q) (place n p q hp hq) ∙ sym (cell_in n w x p q hp hq))

  -- the table in a stretch of a list
  pub table_of_stretch : (n x : ℕ) (xs w : List V) → xs ≡ slice_range w x (x + n * n) → table_of O n xs ≡ table_in O n w x
  table_of_stretch n x xs w stretch = table_same O _ _ (λ p q hp hq.
      let below = place n p q hp hq in
      let here = cell_of O n xs p q hp hq in
      let there = cell_in n w x p q hp hq in
      search (rules, places))

  -- the table whose entries stand between two parts
  pub table_between : (n x : ℕ) (before part behind : List V) (A : Table V n) → length before ≡ x → part ≡ A.entries
      → table_in O n (before ++ (part ++ behind)) x ≡ A
  table_between n x before part behind A long made = table_same O _ A (λ p q hp hq.
      let below = place n p q hp hq in
      let inside : x + (p * n + q) - x ≡ p * n + q = omega arith in
      let long' = ap length made ∙ A.sized in
      let there = cell_in n (before ++ (part ++ behind)) x p q hp hq in
      search (rules, places))

  -- a weight outside of what was written
  pub read_kept : (y k : ℕ) (w w' : List V) → Kept O y k w w' → (x m i : ℕ) → Apart x m y k → i < m → read O w' (x + i) ≡ read O w (x + i)
  read_kept y k w w' kept x m i (inl before) h = kept (x + i) (inl (omega arith))
  read_kept y k w w' kept x m i (inr behind) h = kept (x + i) (inr (omega arith))

  pub table_kept : (n y k : ℕ) (w w' : List V) → Kept O y k w w' → (x : ℕ) → Apart x (n * n) y k → table_in O n w' x ≡ table_in O n w x
  table_kept n y k w w' kept x apart = table_moved n w w' x x (λ i h. read_kept y k w w' kept x (n * n) i apart h)

  pub kept_none : (y : ℕ) (w : List V) → Kept O y 0 w w
  kept_none y w k h = refl

  pub kept_wider : (x m y k : ℕ) (w w' : List V) → y ≤ x → x + m ≤ y + k → Kept O x m w w' → Kept O y k w w'
  kept_wider x m y k w w' low high kept i (inl h) = kept i (inl (omega arith))
  kept_wider x m y k w w' low high kept i (inr h) = kept i (inr (omega arith))

  pub kept_twice : (y k : ℕ) (w w' w'' : List V) → Kept O y k w w' → Kept O y k w' w'' → Kept O y k w w''
  kept_twice y k w w' w'' first second i h = second i h ∙ first i h

  -- what is made of the tables in two stretches of a list, written between two parts of it
  of_stretches : (n x y out : ℕ) (op : Table V n → Table V n → Table V n) (w before behind left right part : List V) → length before ≡ out
      → left ≡ slice_range w x (x + n * n) → right ≡ slice_range w y (y + n * n) → part ≡ (op (table_of O n left) (table_of O n right)).entries
      → table_in O n (before ++ (part ++ behind)) out ≡ op (table_in O n w x) (table_in O n w y)
  of_stretches n x y out op w before behind left right part long from_x from_y made =
      table_between n out before part behind _ long made
      ∙ ap₂ op (table_of_stretch n x left w from_x) (table_of_stretch n y right w from_y)

  pub product_between : (n x y out : ℕ) (w before behind left right part : List V) → length before ≡ out
      → left ≡ slice_range w x (x + n * n) → right ≡ slice_range w y (y + n * n) → part ≡ product_entries O n left right
      → table_in O n (before ++ (part ++ behind)) out ≡ table_times O (table_in O n w x) (table_in O n w y)
  product_between n x y out = of_stretches n x y out (table_times O)

  pub sum_between : (n x out : ℕ) (w before behind room left part : List V) → length before ≡ out
      → room ≡ slice_range w out (out + n * n) → left ≡ slice_range w x (x + n * n) → part ≡ sum_entries O n room left
      → table_in O n (before ++ (part ++ behind)) out ≡ table_plus O (table_in O n w out) (table_in O n w x)
  sum_between n x out = of_stretches n out x out (table_plus O)
