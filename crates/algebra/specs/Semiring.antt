-- Semirings whose product need not commute, with their finite sums and products.
use Rattle.std.specs.Prelude.{◌≡◌, ℕ, ◌<◌, List, [], ◌∷◌, ◌++◌, map, length}
use Rattle.std.specs.List.{AllByRecursion}

-- the operations of a semiring of values V
pub record Ops (V : Type 0) : Type 0 where
  pub zero : V
  pub one : V
  pub plus : V → V → V
  pub times : V → V → V

-- and its laws, which leave open whether zero is one
pub record Laws {V : Type 0} (O : Ops V) : Type 0 where
  pub plus_assoc : (x y z : V) → O.plus (O.plus x y) z ≡ O.plus x (O.plus y z)
  pub plus_comm : (x y : V) → O.plus x y ≡ O.plus y x
  pub plus_zero : (x : V) → O.plus x O.zero ≡ x
  pub times_assoc : (x y z : V) → O.times (O.times x y) z ≡ O.times x (O.times y z)
  pub one_times : (x : V) → O.times O.one x ≡ x
  pub times_one : (x : V) → O.times x O.one ≡ x
  pub times_plus : (x y z : V) → O.times x (O.plus y z) ≡ O.plus (O.times x y) (O.times x z)
  pub plus_times : (x y z : V) → O.times (O.plus x y) z ≡ O.plus (O.times x z) (O.times y z)
  pub zero_times : (x : V) → O.times O.zero x ≡ O.zero
  pub times_zero : (x : V) → O.times x O.zero ≡ O.zero

-- f 0 + f 1 + ... + f (n - 1)
abbrev pub sum_to : {V : Type 0} → Ops V → ℕ → (ℕ → V) → V
sum_to O ℕ.zero f = O.zero
sum_to O (ℕ.suc n) f = O.plus (sum_to O n f) (f n)

-- the sum of f over a list
abbrev pub sum_over : {V : Type 0} → Ops V → {X : Type 0} → List X → (X → V) → V
sum_over O [] f = O.zero
sum_over O (x ∷ xs) f = O.plus (f x) (sum_over O xs f)

-- the product of a list, in its order
abbrev pub product : {V : Type 0} → Ops V → List V → V
product O [] = O.one
product O (x ∷ xs) = O.times x (product O xs)

-- each number below n in front of each of the lists ls
abbrev pub fronts : ℕ → List (List ℕ) → List (List ℕ)
fronts ℕ.zero ls = []
fronts (ℕ.suc n) ls = fronts n ls ++ map (λ l. n ∷ l) ls

-- all lists of k numbers below n
abbrev pub all_lists : ℕ → ℕ → List (List ℕ)
all_lists n ℕ.zero = [] ∷ []
all_lists n (ℕ.suc k) = fronts n (all_lists n k)

-- a list of k numbers below n
abbrev pub Listed : ℕ → ℕ → List ℕ → Type 0
Listed n k rs = (length rs ≡ k) × AllByRecursion (λ r. r < n) rs
