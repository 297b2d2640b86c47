-- Theorems on tables over a semiring, stated for its operations; the functions that bear them ask for its laws.
use Rattle.std.specs.Prelude.{◌≡◌, ℕ, ◌<◌, List, ◌∷◌, length, ◌≢◌}
use mathlib.Core.List.{Memᴰ}
use Rattle.algebra.specs.Semiring.{Ops, Laws, product, sum_over, all_lists, Listed}
use Rattle.algebra.specs.Tables.{Table, cell, table_ops, walk}

-- the lists that a sum over states or letters ranges over are exactly those of k numbers below n
abbrev pub ListsAreAll : Type 0
ListsAreAll = (n k : ℕ) (rs : List ℕ) → (Memᴰ rs (all_lists n k) → Listed n k rs) × (Listed n k rs → Memᴰ rs (all_lists n k))

module _ {V : Type 0} (O : Ops V) where
  -- and each stands there once: where every other list gives zero, the sum is what this one gives
  abbrev pub ListsStandOnce : Type 0
  ListsStandOnce =
      (n k : ℕ) (rs : List ℕ) (f : List ℕ → V) → Listed n k rs → ((l : List ℕ) → (l ≢ rs) → f l ≡ O.zero)
      → sum_over O (all_lists n k) f ≡ f rs

  -- the tables of one size are a semiring
  abbrev pub TablesAreASemiring : ℕ → Type 0
  TablesAreASemiring n = Laws (table_ops O n)

  -- an entry of a product of several tables is the sum over all lists of inner states
  abbrev pub ProductsSumWalks : ℕ → Type 0
  ProductsSumWalks n =
      (A : Table V n) (As : List (Table V n)) (p q : ℕ) → p < n → q < n
      → cell O (product (table_ops O n) (A ∷ As)) p q ≡ sum_over O (all_lists n (length As)) (λ rs. walk O p A As rs q)
