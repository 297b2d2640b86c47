-- The sum over all runs on a text, by a stack, is the product of its summary's strip.
use Rattle.std.proofs.Common.{◌≡◌, ℕ, List, [], ◌∷◌, ◌++◌, sym, refl, ap, ◌∙◌}
use mathlib.Core.Path.{fun_ext}
use Rattle.algebra.specs.Semiring.{Ops, Laws, sum_to, product}
use Rattle.algebra.proofs.Sums.{sum_times, product-append}
use Rattle.nested.specs.declared.token.Token.{Token}
use Rattle.nested.specs.Summaries.{Transitions, Close, Open, Summary, summary, empty, last_times, pair, join, of_token, extended, of_text, close_strip, open_strip, strip}
use Rattle.nested.specs.Moves.{Move, by, push, pop, close_moves, open_moves, moves, popped, step, move}
use Rattle.nested.proofs.Joins.{join_token, close_moves-append}
use Rattle.nested.proofs.Traces.{one_move, move_runs, ends, runs}

module _ {T : Type 0} {O : Ops T} (S : Laws O) (M : Transitions T) where
  move_runs-append : (ss rs : List (Move T)) (K : List ℕ → T) → move_runs O M (ss ++ rs) K ≡ move_runs O M ss (move_runs O M rs K)
  move_runs-append [] rs K = refl
  move_runs-append (s ∷ ss) rs K = ap (one_move O M s) (move_runs-append ss rs K)

  -- two tables in a row are their product, and one is none
  by_by : (x y : T) (K : List ℕ → T) → one_move O M (by (O.times x y)) K ≡ one_move O M (by x) (one_move O M (by y) K)
  by_by x y K = fun_ext (λ σ. S.times_assoc x y (K σ))

  by_one : (K : List ℕ → T) → one_move O M (by O.one) K ≡ K
  by_one K = fun_ext (λ σ. S.one_times (K σ))

  -- an open, a table and a close come to their pair's table
  by_pair : (a : ℕ) (y : T) (b : ℕ) (K : List ℕ → T) → one_move O M (by (pair O M a y b)) K ≡ one_move O M (push a) (one_move O M (by y) (one_move O M (pop b) K))
  by_pair a y b K = fun_ext (λ σ. simp (sum_times S M.letters, S.times_assoc))

  runs_by : (cs : List (Close T)) (m : T) (os : List (Open T)) (x : T) (K : List ℕ → T) → move_runs O M (moves (last_times O cs m os x)) K ≡ move_runs O M (moves (summary cs m os)) (one_move O M (by x) K)
  runs_by cs m [] x K = simp (move_runs-append, by_by)
  runs_by cs m (o ∷ os) x K = simp (move_runs-append, by_by)

  runs_pop : (cs : List (Close T)) (m : T) (os : List (Open T)) (b : ℕ) (K : List ℕ → T) → move_runs O M (moves (popped O M cs m os b)) K ≡ move_runs O M (moves (summary cs m os)) (one_move O M (pop b) K)
  runs_pop cs m [] b K = simp (close_moves-append, move_runs-append, by_one)
  runs_pop cs m (o ∷ os) b K = runs_by cs m os (pair O M o.tag o.after b) K ∙ simp (move_runs-append, by_pair)

  -- the runs of a summary after one more move
  runs_step : (R : Summary T) (s : Move T) (K : List ℕ → T) → move_runs O M (moves (step O M s R)) K ≡ move_runs O M (moves R) (one_move O M s K)
  runs_step R (by x) K = runs_by R.closes R.middle R.opens x K
  runs_step R (push a) K = simp (move_runs-append, by_one)
  runs_step R (pop b) K = runs_pop R.closes R.middle R.opens b K

  -- and after a text
  runs_extended : (R : Summary T) (w : List Token) → move_runs O M (moves (extended O M R w)) (ends O M) ≡ move_runs O M (moves R) (runs O M w)
  runs_extended R [] = refl
  runs_extended R (t ∷ w) =
      runs_extended (join O M R (of_token O M t)) w
      ∙ ap (λ Q. move_runs O M (moves Q) (runs O M w)) (join_token S M R t)
      ∙ runs_step R (move O M t) (runs O M w)

  closes_value : (cs : List (Close T)) (K : List ℕ → T) → move_runs O M (close_moves cs) K [] ≡ O.times (product O (close_strip O M cs)) (K [])
  closes_value [] K = sym (S.one_times (K []))
  closes_value (c ∷ cs) K = ap (λ x. O.times c.before (O.times (M.bottom c.tag) x)) (closes_value cs K) ∙ simp S.times_assoc

  -- where the same follows from every stack, an open gives the sum of its tables
  by_open : (a : ℕ) (y k : T) → one_move O M (push a) (one_move O M (by y) (λ τ. k)) ≡ (λ τ. O.times (sum_to O M.letters (M.opening a)) (O.times y k))
  by_open a y k = fun_ext (λ τ. sym (sum_times S M.letters (M.opening a) (O.times y k)))

  opens_value : (os : List (Open T)) (k : T) → move_runs O M (open_moves os) (λ τ. k) ≡ (λ τ. O.times (product O (open_strip O M os)) k)
  opens_value [] k = fun_ext (λ τ. sym (S.one_times k))
  opens_value (o ∷ os) k = simp (move_runs-append, by_open, opens_value os, product-append, S.times_assoc, S.times_one)

  moves_value : (R : Summary T) → move_runs O M (moves R) (ends O M) [] ≡ product O (strip O M R)
  moves_value R = rw (move_runs-append, closes_value R.closes, opens_value R.opens O.one) (simp (product-append, S.times_one))

  pub runs_value : (w : List Token) → runs O M w [] ≡ product O (strip O M (of_text O M w))
  runs_value w = sym (S.one_times _) ∙ ap (λ K. K []) (sym (runs_extended (empty O) w)) ∙ moves_value (of_text O M w)
