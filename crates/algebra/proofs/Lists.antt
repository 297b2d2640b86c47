-- The lists that sums range over: those of the right length and range, and each once.
use Rattle.std.proofs.Common.{◌≡◌, ℕ, zero, suc, ◌<◌, List, [], ◌∷◌, length, sym, refl, ap, ◌∙◌, subst, inl, inr, arith}
use mathlib.Core.Path.{fun_ext}
use mathlib.Core.List.Memᴰ
use mathlib.Core.List.{Memᴰ}
use Rattle.std.proofs.lemmas.Bool.{cases_eq}
use Rattle.std.specs.List.{AllByRecursion}
use Rattle.algebra.specs.Semiring.{Ops, Laws, sum_over, fronts, all_lists, Listed}
use Rattle.algebra.proofs.Sums.{zero_plus}
use Rattle.algebra.proofs.TableLaws.{sum_single}
use Rattle.algebra.proofs.Walks.{over_fronts}

in_fronts : (n : ℕ) (ls : List (List ℕ)) (r : ℕ) (rs : List ℕ) → r < n → Memᴰ rs ls → Memᴰ (r ∷ rs) (fronts n ls)
in_fronts zero ls r rs h m = absurd (omega arith)
in_fronts (suc n) ls r rs h m = elim (cases_eq r n) [
  | inl e ↦ Memᴰ.append_right (fronts n ls) (Memᴰ.cast (ap (λ x. x ∷ rs) e) (Memᴰ.map (λ l. n ∷ l) m))
  | inr ne ↦ Memᴰ.append_left _ (in_fronts n ls r rs (omega arith) m)
]

pub in_all_lists : (n : ℕ) (rs : List ℕ) → AllByRecursion (λ r. r < n) rs → Memᴰ rs (all_lists n (length rs))
in_all_lists n [] all = Memᴰ.head refl
in_all_lists n (r ∷ rs) all = in_fronts n (all_lists n (length rs)) r rs all.0 (in_all_lists n rs all.1)

of_fronts : (n : ℕ) (ls : List (List ℕ)) (rs : List ℕ) → Memᴰ rs (fronts n ls) → (r : ℕ) × (l : List ℕ) × (r < n) × Memᴰ l ls × (rs ≡ r ∷ l)
of_fronts zero ls rs m = absurd (Memᴰ.not-nil m)
of_fronts (suc n) ls rs m = elim (Memᴰ.append_cases (fronts n ls) m) [
  | inl before ↦ let f = of_fronts n ls rs before in (f.0, f.1, omega (arith, f.2), f.3, f.4)
  | inr last ↦ let f = Memᴰ.of_map (λ l. n ∷ l) ls last in (n, f.0, omega arith, f.1, sym f.2)
]

pub of_all_lists : (n k : ℕ) (rs : List ℕ) → Memᴰ rs (all_lists n k) → Listed n k rs
of_all_lists n zero rs m = subst (Listed n 0) (sym (Memᴰ.eq_of_singleton m)) (refl, tt)
of_all_lists n (suc k) rs m =
    let f = of_fronts n (all_lists n k) rs m in
    let g = of_all_lists n k f.1 f.3 in
    subst (Listed n (suc k)) (sym f.4) (ap suc g.0, (f.2, g.1))

pub in_lists : (n k : ℕ) (rs : List ℕ) → Listed n k rs → Memᴰ rs (all_lists n k)
in_lists n k rs listed = subst (λ j. Memᴰ rs (all_lists n j)) listed.0 (in_all_lists n rs listed.1)

-- each list is summed over once
module _ {T : Type 0} {O : Ops T} (S : Laws O) where
  pub over_zero : {X : Type 0} (xs : List X) → sum_over O xs (λ x. O.zero) ≡ O.zero
  over_zero [] = refl
  over_zero (x ∷ xs) = zero_plus S _ ∙ over_zero xs

  pub over_single : (n : ℕ) (rs : List ℕ) (f : List ℕ → T) → AllByRecursion (λ r. r < n) rs → ((l : List ℕ) → (l ≡ rs → ⊥) → f l ≡ O.zero) → sum_over O (all_lists n (length rs)) f ≡ f rs
  over_single n [] f all others = S.plus_zero (f [])
  over_single n (r ∷ rs) f all others =
      over_fronts S n _ f
      ∙ sum_single S n r _ all.0 (λ i hi ne. ap (sum_over O (all_lists n (length rs))) (fun_ext (λ l. others (i ∷ l) (λ e. ne (cc)))) ∙ over_zero _)
      ∙ over_single n rs _ all.1 (λ l ne. others (r ∷ l) (λ e. ne (cc)))

  pub lists_once : (n k : ℕ) (rs : List ℕ) (f : List ℕ → T) → Listed n k rs → ((l : List ℕ) → (l ≡ rs → ⊥) → f l ≡ O.zero) → sum_over O (all_lists n k) f ≡ f rs
  lists_once n k rs f listed others = subst (λ j. sum_over O (all_lists n j) f ≡ f rs) listed.0 (over_single n rs f listed.1 others)
