-- Runs by a stack of letters: the tables of one run, and the sum over all of them.
use Rattle.std.proofs.Common.{◌≡◌, ℕ, suc, List, [], ◌∷◌, map, length, get_or, drop, sym, refl, ap, ◌∙◌}
use Rattle.algebra.specs.Semiring.{Ops, Laws, sum_to, product, sum_over, all_lists}
use Rattle.algebra.proofs.Sums.{sum_same}
use Rattle.algebra.proofs.Walks.{times_over, over_fronts}
use Rattle.nested.specs.declared.token.Token.{Token}
use Rattle.nested.specs.declared.token.Token.TheVariants.{Text, Mark, Opening, Closing}
use Rattle.nested.specs.Tokens.{count_opens}
use Rattle.nested.specs.Summaries.{Transitions}
use Rattle.nested.specs.Moves.{Move, by, push, pop, move}

module _ {T : Type 0} (M : Transitions T) where
  -- the table of each token in one run, whose opens push the letters ls in turn, and 0 past their end
  abbrev pub trace : List Token → List ℕ → List ℕ → List T
  trace [] σ ls = []
  trace (Text c ∷ w) σ ls = M.text c ∷ trace w σ ls
  trace (Mark t ∷ w) σ ls = M.mark t ∷ trace w σ ls
  trace (Opening a ∷ w) σ ls = M.opening a (get_or ls 0 0) ∷ trace w (get_or ls 0 0 ∷ σ) (drop 1 ls)
  trace (Closing b ∷ w) [] ls = M.bottom b ∷ trace w [] ls
  trace (Closing b ∷ w) (c ∷ σ) ls = M.closing b c ∷ trace w σ ls

  pub length-trace : (w : List Token) (σ ls : List ℕ) → length (trace w σ ls) ≡ length w
  length-trace [] σ ls = refl
  length-trace (Opening a ∷ w) σ ls = ap suc (length-trace w (get_or ls 0 0 ∷ σ) (drop 1 ls))
  length-trace (Closing b ∷ w) (c ∷ σ) ls = ap suc (length-trace w σ ls)
  length-trace (t ∷ w) σ ls = ap suc (length-trace w σ ls)

-- the sum over the runs on one move, or on a list of moves, with what follows it. The stack holds the letters of the opens
-- that wait, the last first
module _ {T : Type 0} (O : Ops T) (M : Transitions T) where
  abbrev pub one_move : Move T → (List ℕ → T) → List ℕ → T
  one_move (by x) K σ = O.times x (K σ)
  one_move (push a) K σ = sum_to O M.letters (λ c. O.times (M.opening a c) (K (c ∷ σ)))
  one_move (pop b) K [] = O.times (M.bottom b) (K [])
  one_move (pop b) K (c ∷ σ) = O.times (M.closing b c) (K σ)

  abbrev pub move_runs : List (Move T) → (List ℕ → T) → List ℕ → T
  move_runs [] K = K
  move_runs (s ∷ ss) K = one_move s (move_runs ss K)

  abbrev pub ends : List ℕ → T
  ends σ = O.one

  -- and on a text
  abbrev pub runs : List Token → List ℕ → T
  runs w = move_runs (map (move O M) w) ends

module _ {T : Type 0} {O : Ops T} (S : Laws O) (M : Transitions T) where
  -- one product for each choice of a letter for each open
  pub runs_trace : (w : List Token) (σ : List ℕ) → runs O M w σ ≡ sum_over O (all_lists M.letters (count_opens w)) (λ ls. product O (trace M w σ ls))
  runs_trace [] σ = sym (S.plus_zero O.one)
  runs_trace (Opening a ∷ w) σ =
      sum_same S M.letters (λ c. ap (O.times (M.opening a c)) (runs_trace w (c ∷ σ)) ∙ times_over S _ _ _)
      ∙ sym (over_fronts S M.letters (all_lists M.letters (count_opens w)) (λ ls. product O (trace M (Opening a ∷ w) σ ls)))
  runs_trace (Closing b ∷ w) (c ∷ σ) = ap (O.times _) (runs_trace w σ) ∙ times_over S _ _ _
  runs_trace (t ∷ w) σ = ap (O.times _) (runs_trace w σ) ∙ times_over S _ _ _
