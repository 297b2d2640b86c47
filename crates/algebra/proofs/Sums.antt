-- Laws of finite sums and products over a semiring.
use Rattle.std.proofs.Common.{◌≡◌, ℕ, zero, suc, ◌<◌, List, [], ◌∷◌, ◌++◌, sym, refl, ap, ◌∙◌, ap₂, arith}
use mathlib.Core.Path.{fun_ext}
use Rattle.algebra.specs.Semiring.{Ops, Laws, sum_to, product}

module _ {T : Type 0} {O : Ops T} (S : Laws O) where
  pub zero_plus : (x : T) → O.plus O.zero x ≡ x
  zero_plus x = S.plus_comm O.zero x ∙ S.plus_zero x

  pub sum_same : (n : ℕ) {f g : ℕ → T} → ((i : ℕ) → f i ≡ g i) → sum_to O n f ≡ sum_to O n g
  sum_same n same = ap (sum_to O n) (fun_ext same)

  pub sum_below : (n : ℕ) (f g : ℕ → T) → ((i : ℕ) → i < n → f i ≡ g i) → sum_to O n f ≡ sum_to O n g
  sum_below zero f g same = refl
  sum_below (suc n) f g same = ap₂ O.plus (sum_below n f g (λ i h. same i (omega arith))) (same n (omega arith))

  pub sum_zero : (n : ℕ) → sum_to O n (λ i. O.zero) ≡ O.zero
  sum_zero zero = refl
  sum_zero (suc n) = S.plus_zero _ ∙ sum_zero n

  -- (a + b) + (c + d) = (a + c) + (b + d)
  pub plus_cross : (a b c d : T) → O.plus (O.plus a b) (O.plus c d) ≡ O.plus (O.plus a c) (O.plus b d)
  plus_cross a b c d = simp S.plus_assoc (ap (O.plus a) (sym (S.plus_assoc b c d) ∙ ap (λ x. O.plus x d) (S.plus_comm b c) ∙ S.plus_assoc c b d))

  pub sum_plus : (n : ℕ) (f g : ℕ → T) → sum_to O n (λ i. O.plus (f i) (g i)) ≡ O.plus (sum_to O n f) (sum_to O n g)
  sum_plus zero f g = sym (S.plus_zero O.zero)
  sum_plus (suc n) f g = ap (λ x. O.plus x (O.plus (f n) (g n))) (sum_plus n f g) ∙ plus_cross _ _ _ _

  pub times_sum : (n : ℕ) (x : T) (f : ℕ → T) → O.times x (sum_to O n f) ≡ sum_to O n (λ i. O.times x (f i))
  times_sum zero x f = S.times_zero x
  times_sum (suc n) x f = S.times_plus x _ _ ∙ ap (λ y. O.plus y (O.times x (f n))) (times_sum n x f)

  pub sum_times : (n : ℕ) (f : ℕ → T) (x : T) → O.times (sum_to O n f) x ≡ sum_to O n (λ i. O.times (f i) x)
  sum_times zero f x = S.zero_times x
  sum_times (suc n) f x = S.plus_times _ _ x ∙ ap (λ y. O.plus y (O.times (f n) x)) (sum_times n f x)

  pub sum_swap : (m n : ℕ) (f : ℕ → ℕ → T) → sum_to O m (λ i. sum_to O n (f i)) ≡ sum_to O n (λ j. sum_to O m (λ i. f i j))
  sum_swap zero n f = sym (sum_zero n)
  sum_swap (suc m) n f = ap (λ x. O.plus x (sum_to O n (f m))) (sum_swap m n f) ∙ sym (sum_plus n (λ j. sum_to O m (λ i. f i j)) (f m))

  pub product-append : (xs ys : List T) → product O (xs ++ ys) ≡ O.times (product O xs) (product O ys)
  product-append [] ys = sym (S.one_times _)
  product-append (x ∷ xs) ys = ap (O.times x) (product-append xs ys) ∙ sym (S.times_assoc _ _ _)
