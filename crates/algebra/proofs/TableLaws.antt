-- The square tables over a semiring are a semiring.
use Rattle.std.proofs.Common.{◌≡◌, ℕ, zero, suc, ◌+◌, ◌*◌, ◌/◌, ◌%◌, ◌<◌, if◌then◌else◌, ◌==◌, length, get_or, sym, refl, ap, ◌∙◌, subst, ap₂, mod-lt, div-lt_iff_lt-mul, div-add-mod', zero-add, arith, ext_get_or, inl, inr}
use mathlib.Core.HLevel.{is_prop→PathP}
use native.Mathlib.Nat.{ℕ_set}
use lib.Arith.{digits_div, digits_mod, digits_lt}
use Rattle.std.proofs.lemmas.List.FromFn.{get_or-map-range_with_len}
use Rattle.std.proofs.lemmas.Bool.{cases_eq, eq-eqb, ne_eqb}
use Rattle.algebra.specs.Semiring.{Ops, Laws, sum_to}
use Rattle.algebra.specs.Tables.{Table, cell, filled, table_one, table_times, table_ops}
use Rattle.algebra.proofs.Sums.{sum_below, sum_zero, times_sum, sum_times, sum_swap, sum_plus, zero_plus}

-- each index of n rows of n entries is that of a row and a column
index_ind : (n : ℕ) (F : ℕ → Type 0) → ((p q : ℕ) → p < n → q < n → F (p * n + q)) → (i : ℕ) → i < n * n → F i
index_ind zero F here i h = absurd (omega arith)
index_ind (suc n) F here i h =
    let some : 0 < suc n = omega arith in
    subst F (div-add-mod' i (suc n)) (here (i / suc n) (i % suc n) ((div-lt_iff_lt-mul some).1 h) (mod-lt i some))

-- tables with the same entries are equal
pub table_path : {V : Type 0} {n : ℕ} (A B : Table V n) → A.entries ≡ B.entries → A ≡ B
table_path {V} {n} A B same = λ i. record {
  entries = same i;
  sized = is_prop→PathP (λ j. length (same j) ≡ n * n) (λ j. ℕ_set (length (same j)) (n * n)) A.sized B.sized i;
}

module _ {V : Type 0} (O : Ops V) where
  -- and so are those with the same entry in each row and column
  pub table_same : {n : ℕ} (A B : Table V n) → ((p q : ℕ) → p < n → q < n → cell O A p q ≡ cell O B p q) → A ≡ B
  table_same {n} A B same =
      table_path A B (ext_get_or O.zero A.entries B.entries (A.sized ∙ sym B.sized) (λ i h.
      index_ind n (λ j. get_or A.entries j O.zero ≡ get_or B.entries j O.zero) same i (omega (arith, A.sized))))

  pub cell-filled : (n : ℕ) (f : ℕ → ℕ → V) (p q : ℕ) → p < n → q < n → cell O (filled O n f) p q ≡ f p q
  unfolding filled
  cell-filled n f p q hp hq =
      get_or-map-range_with_len (λ i. f (i / n) (i % n)) 0 (n * n) (p * n + q) (p * n + q) O.zero (digits_lt hp hq) (zero-add _)
      ∙ ap₂ f (digits_div p hq) (digits_mod p hq)

module _ {V : Type 0} {O : Ops V} (S : Laws O) where
  -- a sum with one summand that is not zero
  pub sum_single : (n p : ℕ) (f : ℕ → V) → p < n → ((i : ℕ) → i < n → (i ≡ p → ⊥) → f i ≡ O.zero) → sum_to O n f ≡ f p
  sum_single zero p f h others = absurd (omega arith)
  sum_single (suc n) p f h others = elim (cases_eq p n) [
    | inl e ↦ ap₂ O.plus (sum_below S n f (λ i. O.zero) (λ i hi. others i (omega arith) (λ same. omega arith)) ∙ sum_zero S n) (ap f (sym e)) ∙ zero_plus S (f p)
    | inr ne ↦ ap₂ O.plus (sum_single n p f (omega arith) (λ i hi. others i (omega arith))) (others n (omega arith) (λ same. ne (sym same))) ∙ S.plus_zero (f p)
  ]

  module _ (n : ℕ) where
    -- a product with a filled table, on the right and on the left
    times_filled : (A : Table V n) (f : ℕ → ℕ → V) (p q : ℕ) → p < n → q < n → cell O (table_times O A (filled O n f)) p q ≡ sum_to O n (λ r. O.times (cell O A p r) (f r q))
    times_filled A f p q hp hq = cell-filled O n _ p q hp hq ∙ sum_below S n _ _ (λ r hr. ap (O.times (cell O A p r)) (cell-filled O n f r q hr hq))

    filled_times : (f : ℕ → ℕ → V) (B : Table V n) (p q : ℕ) → p < n → q < n → cell O (table_times O (filled O n f) B) p q ≡ sum_to O n (λ r. O.times (f p r) (cell O B r q))
    filled_times f B p q hp hq = cell-filled O n _ p q hp hq ∙ sum_below S n _ _ (λ r hr. ap (λ x. O.times x (cell O B r q)) (cell-filled O n f p r hp hr))

    -- a sum that picks one summand by a row of the identity, and by a column
    pub one_in_row : (p : ℕ) (f : ℕ → V) → p < n → sum_to O n (λ r. O.times (if p == r then O.one else O.zero) (f r)) ≡ f p
    one_in_row p f hp =
        sum_single n p _ hp (λ r hr ne. ap (λ b. O.times (if b then O.one else O.zero) (f r)) (ne_eqb p r (λ same. ne (sym same))) ∙ S.zero_times _)
        ∙ ap (λ b. O.times (if b then O.one else O.zero) (f p)) (eq-eqb p p refl) ∙ S.one_times (f p)

    one_in_column : (q : ℕ) (f : ℕ → V) → q < n → sum_to O n (λ r. O.times (f r) (if r == q then O.one else O.zero)) ≡ f q
    one_in_column q f hq =
        sum_single n q _ hq (λ r hr ne. ap (λ b. O.times (f r) (if b then O.one else O.zero)) (ne_eqb r q ne) ∙ S.times_zero _)
        ∙ ap (λ b. O.times (f q) (if b then O.one else O.zero)) (eq-eqb q q refl) ∙ S.times_one (f q)

    pub table_times_one : (A : Table V n) → table_times O A (table_one O n) ≡ A
    table_times_one A = table_same O _ _ (λ p q hp hq. times_filled A _ p q hp hq ∙ one_in_column q (cell O A p) hq)

    pub table_laws : Laws (table_ops O n)
    table_laws = record {
      plus_assoc = λ A B C. table_same O _ _ (λ p q hp hq. simp (cell-filled, S.plus_assoc));
      plus_comm = λ A B. table_same O _ _ (λ p q hp hq. simp cell-filled (S.plus_comm _ _));
      plus_zero = λ A. table_same O _ _ (λ p q hp hq. simp (cell-filled, S.plus_zero));
      times_assoc = λ A B C. table_same O _ _ (λ p q hp hq.
          filled_times _ C p q hp hq ∙ simp (sum_times S n, times_filled, times_sum S n, S.times_assoc) (sum_swap S n n _));
      one_times = λ A. table_same O _ _ (λ p q hp hq. filled_times _ A p q hp hq ∙ one_in_row p (λ r. cell O A r q) hp);
      times_one = table_times_one;
      times_plus = λ A B C. table_same O _ _ (λ p q hp hq. times_filled A _ p q hp hq ∙ simp (cell-filled, S.times_plus, sum_plus S n));
      plus_times = λ A B C. table_same O _ _ (λ p q hp hq. filled_times _ C p q hp hq ∙ simp (cell-filled, S.plus_times, sum_plus S n));
      zero_times = λ A. table_same O _ _ (λ p q hp hq. filled_times _ A p q hp hq ∙ simp (cell-filled, S.zero_times, sum_zero S n));
      times_zero = λ A. table_same O _ _ (λ p q hp hq. times_filled A _ p q hp hq ∙ simp (cell-filled, S.times_zero, sum_zero S n));
    }
