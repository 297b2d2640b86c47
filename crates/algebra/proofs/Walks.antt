-- An entry of a product of tables is the sum over all walks.
use Rattle.std.proofs.Common.{◌≡◌, ℕ, zero, suc, ◌<◌, List, [], ◌∷◌, ◌++◌, map, length, sym, refl, ap, ◌∙◌, ap₂}
use Rattle.algebra.specs.Semiring.{Ops, Laws, sum_to, product, sum_over, fronts, all_lists}
use Rattle.algebra.specs.Tables.{Table, cell, table_ops, walk}
use Rattle.algebra.proofs.Sums.{sum_below, zero_plus}
use Rattle.algebra.proofs.TableLaws.{cell-filled, table_times_one}

module _ {V : Type 0} {O : Ops V} (S : Laws O) where
  pub over_append : {X : Type 0} (xs ys : List X) (f : X → V) → sum_over O (xs ++ ys) f ≡ O.plus (sum_over O xs f) (sum_over O ys f)
  over_append [] ys f = sym (zero_plus S _)
  over_append (x ∷ xs) ys f = ap (O.plus (f x)) (over_append xs ys f) ∙ sym (S.plus_assoc _ _ _)

  pub over_map : {X Y : Type 0} (g : X → Y) (xs : List X) (f : Y → V) → sum_over O (map g xs) f ≡ sum_over O xs (λ x. f (g x))
  over_map g [] f = refl
  over_map g (x ∷ xs) f = ap (O.plus (f (g x))) (over_map g xs f)

  pub times_over : {X : Type 0} (v : V) (xs : List X) (f : X → V) → O.times v (sum_over O xs f) ≡ sum_over O xs (λ x. O.times v (f x))
  times_over v [] f = S.times_zero v
  times_over v (x ∷ xs) f = S.times_plus v _ _ ∙ ap (O.plus (O.times v (f x))) (times_over v xs f)

  pub over_fronts : (n : ℕ) (ls : List (List ℕ)) (f : List ℕ → V) → sum_over O (fronts n ls) f ≡ sum_to O n (λ r. sum_over O ls (λ l. f (r ∷ l)))
  over_fronts zero ls f = refl
  over_fronts (suc n) ls f = over_append (fronts n ls) (map (λ l. n ∷ l) ls) f ∙ ap₂ O.plus (over_fronts n ls f) (over_map (λ l. n ∷ l) ls f)

  pub walks : {n : ℕ} (A : Table V n) (As : List (Table V n)) (p q : ℕ) → p < n → q < n → cell O (product (table_ops O n) (A ∷ As)) p q ≡ sum_over O (all_lists n (length As)) (λ rs. walk O p A As rs q)
  walks {n} A [] p q hp hq = ap (λ B. cell O B p q) (table_times_one S n A) ∙ sym (S.plus_zero (cell O A p q))
  walks {n} A (B ∷ Bs) p q hp hq =
      cell-filled O n _ p q hp hq
      ∙ sum_below S n _ _ (λ r hr. ap (O.times (cell O A p r)) (walks B Bs r q hr hq) ∙ times_over (cell O A p r) (all_lists n (length Bs)) (λ rs. walk O r B Bs rs q))
      ∙ sym (over_fronts n (all_lists n (length Bs)) (λ rs. walk O p A (B ∷ Bs) rs q))
