-- The runs that a weight sums over: all runs on the text, and each once.
use Rattle.std.proofs.Common.{◌≡◌, ℕ, suc, List, [], ◌∷◌, map, length, sym, refl, ap, ◌∙◌, ap₂, inl, inr}
use mathlib.Core.List.Memᴰ
use mathlib.Core.List.{Memᴰ}
use Rattle.algebra.specs.Semiring.{Ops, Laws, sum_over, all_lists}
use Rattle.algebra.proofs.Walks.{over_append, over_map}
use Rattle.algebra.proofs.Lists.{of_all_lists, in_lists, lists_once, over_zero}
use Rattle.algebra.proofs.SumsOver.{over_same}
use Rattle.nested.specs.declared.token.Token.{Token}
use Rattle.nested.specs.Tokens.{count_opens}
use Rattle.nested.specs.Sheets.{Sheet}
use Rattle.nested.specs.Runs.{Run, runs_over, IsRun, all_runs}

abbrev pub run : List ℕ → List ℕ → Run
run qs ls = record { states = qs; letters = ls }

in_runs : (qss lss : List (List ℕ)) (r : Run) → Memᴰ r.states qss → Memᴰ r.letters lss → Memᴰ r (runs_over qss lss)
in_runs qss [] r q m = absurd (Memᴰ.not-nil m)
in_runs qss (ls ∷ lss) r q m = elim (Memᴰ.cases_cons m) [
  | inl e ↦ Memᴰ.append_left _ (Memᴰ.cast (ap (run r.states) e) (Memᴰ.map (λ qs. run qs ls) q))
  | inr after ↦ Memᴰ.append_right (map (λ qs. run qs ls) qss) (in_runs qss lss r q after)
]

of_runs : (qss lss : List (List ℕ)) (r : Run) → Memᴰ r (runs_over qss lss) → Memᴰ r.states qss × Memᴰ r.letters lss
of_runs qss [] r m = absurd (Memᴰ.not-nil m)
of_runs qss (ls ∷ lss) r m = elim (Memᴰ.append_cases (map (λ qs. run qs ls) qss) m) [
  | inl here ↦
      let f = Memᴰ.of_map (λ qs. run qs ls) qss here in
      (Memᴰ.cast (sym (ap (λ s. s.states) f.2)) f.1, Memᴰ.head (sym (ap (λ s. s.letters) f.2)))
  | inr after ↦ let f = of_runs qss lss r after in (f.0, Memᴰ.tail f.1)
]

module _ {V : Type 0} (S : Sheet V) (w : List Token) where
  pub run_listed : (r : Run) → IsRun S w r → Memᴰ r (all_runs S w)
  run_listed r is = in_runs _ _ r (in_lists _ _ r.states is.0) (in_lists _ _ r.letters is.1)

  pub listed_run : (r : Run) → Memᴰ r (all_runs S w) → IsRun S w r
  listed_run r m =
      let f = of_runs (all_lists S.states (suc (length w))) (all_lists S.letters (count_opens w)) r m in
      (of_all_lists _ _ r.states f.0, of_all_lists _ _ r.letters f.1)

module _ {V : Type 0} {O : Ops V} (L : Laws O) where
  -- a sum over runs is one over their letters and their states
  pub over_runs : (qss lss : List (List ℕ)) (f : Run → V) → sum_over O (runs_over qss lss) f ≡ sum_over O lss (λ ls. sum_over O qss (λ qs. f (run qs ls)))
  over_runs qss [] f = refl
  over_runs qss (ls ∷ lss) f =
      over_append L (map (λ qs. run qs ls) qss) (runs_over qss lss) f
      ∙ ap₂ O.plus (over_map L (λ qs. run qs ls) qss f) (over_runs qss lss f)

  pub runs_once : (S : Sheet V) (w : List Token) (r : Run) (f : Run → V) → IsRun S w r → ((other : Run) → (other ≡ r → ⊥) → f other ≡ O.zero) → sum_over O (all_runs S w) f ≡ f r
  runs_once S w r f is others =
      let qss = all_lists S.states (suc (length w)) in
      over_runs qss (all_lists S.letters (count_opens w)) f
      ∙ lists_once L S.letters (count_opens w) r.letters (λ ls. sum_over O qss (λ qs. f (run qs ls))) is.1
      (λ ls ne. over_same O qss (λ qs. others (run qs ls) (λ e. ne (ap (λ s. s.letters) e))) ∙ over_zero L qss)
      ∙ lists_once L S.states (suc (length w)) r.states (λ qs. f (run qs r.letters)) is.0
      (λ qs ne. others (run qs r.letters) (λ e. ne (ap (λ s. s.states) e)))
