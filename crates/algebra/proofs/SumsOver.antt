-- Laws of sums over lists.
use Rattle.std.proofs.Common.{◌≡◌, ℕ, zero, suc, ◌<◌, List, [], ◌∷◌, length, sym, refl, ap, ◌∙◌}
use mathlib.Core.Path.{fun_ext}
use Rattle.algebra.specs.Semiring.{Ops, Laws, sum_to, sum_over, all_lists}
use Rattle.algebra.specs.Tables.{Table, cell, table_ops}
use Rattle.algebra.proofs.Sums.{sum_same, plus_cross}
use Rattle.algebra.proofs.TableLaws.{cell-filled}
use Rattle.algebra.proofs.Walks.{over_fronts}
use Rattle.algebra.proofs.Lists.{over_zero}

pub over_same : {V : Type 0} (O : Ops V) {X : Type 0} (xs : List X) {f g : X → V} → ((x : X) → f x ≡ g x) → sum_over O xs f ≡ sum_over O xs g
over_same O xs same = ap (sum_over O xs) (fun_ext same)

module _ {V : Type 0} {O : Ops V} (L : Laws O) where
  pub over_times : {X : Type 0} (xs : List X) (f : X → V) (v : V) → O.times (sum_over O xs f) v ≡ sum_over O xs (λ x. O.times (f x) v)
  over_times [] f v = L.zero_times v
  over_times (x ∷ xs) f v = L.plus_times _ _ v ∙ ap (O.plus (O.times (f x) v)) (over_times xs f v)

  pub over_plus : {X : Type 0} (xs : List X) (f g : X → V) → sum_over O xs (λ x. O.plus (f x) (g x)) ≡ O.plus (sum_over O xs f) (sum_over O xs g)
  over_plus [] f g = sym (L.plus_zero O.zero)
  over_plus (x ∷ xs) f g = ap (O.plus (O.plus (f x) (g x))) (over_plus xs f g) ∙ plus_cross L _ _ _ _

  pub over_swap : {X : Type 0} (xs : List X) (n : ℕ) (f : X → ℕ → V) → sum_over O xs (λ x. sum_to O n (f x)) ≡ sum_to O n (λ i. sum_over O xs (λ x. f x i))
  over_swap xs zero f = over_zero L xs
  over_swap xs (suc n) f = over_plus xs (λ x. sum_to O n (f x)) (λ x. f x n) ∙ ap (λ y. O.plus y (sum_over O xs (λ x. f x n))) (over_swap xs n f)

  -- what is summed over all lists of k numbers matters at lists of that length only
  pub over_lists : (n k : ℕ) (f g : List ℕ → V) → ((l : List ℕ) → length l ≡ k → f l ≡ g l) → sum_over O (all_lists n k) f ≡ sum_over O (all_lists n k) g
  over_lists n zero f g same = ap (λ x. O.plus x O.zero) (same [] refl)
  over_lists n (suc k) f g same =
      over_fronts L n (all_lists n k) f
      ∙ sum_same L n (λ r. over_lists n k (λ l. f (r ∷ l)) (λ l. g (r ∷ l)) (λ l h. same (r ∷ l) (ap suc h)))
      ∙ sym (over_fronts L n (all_lists n k) g)

  -- an entry of a sum of tables is the sum of their entries
  pub cell_over : (n : ℕ) {X : Type 0} (xs : List X) (F : X → Table V n) (p q : ℕ) → p < n → q < n → cell O (sum_over (table_ops O n) xs F) p q ≡ sum_over O xs (λ x. cell O (F x) p q)
  cell_over n [] F p q hp hq = cell-filled O n (λ i j. O.zero) p q hp hq
  cell_over n (x ∷ xs) F p q hp hq =
      cell-filled O n _ p q hp hq
      ∙ ap (O.plus (cell O (F x) p q)) (cell_over n xs F p q hp hq)
