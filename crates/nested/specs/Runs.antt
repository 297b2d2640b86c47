-- The weight of a text: the sum over all runs of a sheet on its nested word.
use Rattle.std.specs.Prelude.{ℕ, suc, List, [], ◌∷◌, ◌++◌, map, length, take, slice_index, slice_index_or}
use Rattle.std.specs.List.{range_with_len}
use Rattle.algebra.specs.Semiring.{Ops, product, sum_over, all_lists, Listed}
use Rattle.algebra.specs.Tables.{cell}
use Rattle.nested.specs.declared.token.Token.{Token}
use Rattle.nested.specs.declared.token.Token.TheVariants.{Text, Mark, Opening, Closing}
use Rattle.nested.specs.Tokens.{token_at, count_opens}
use Rattle.nested.specs.NestedWords.{End, -∞, at, +∞, partner}
use Rattle.nested.specs.Summaries.{Transitions}
use Rattle.nested.specs.Sheets.{Sheet, transitions}

-- a state before each token and one after the last, and a letter for each opening tag
pub record Run : Type 0 where
  pub states : List ℕ
  pub letters : List ℕ

-- the letter that the open at position i pushes: there is one for each open, in order
abbrev pub letter_at : List Token → List ℕ → ℕ → ℕ
letter_at w ls i = slice_index ls (count_opens (take i w))

module _ {T : Type 0} (M : Transitions T) (w : List Token) (ls : List ℕ) where
  -- a close reads the letter of the open that it matches, and a pending one the bottom
  abbrev pub close_table : ℕ → End → T
  close_table b -∞ = M.bottom b
  close_table b (at i) = M.closing b (letter_at w ls i)
  close_table b +∞ = M.bottom b

  abbrev pub token_table : Token → ℕ → T
  token_table (Text c) i = M.text c
  token_table (Mark t) i = M.mark t
  token_table (Opening a) i = M.opening a (letter_at w ls i)
  token_table (Closing b) i = close_table b (partner w i)

  -- the table of the token at position i
  abbrev pub table_at : ℕ → T
  table_at i = token_table (token_at w i) i

module _ {V : Type 0} (O : Ops V) (S : Sheet V) (w : List Token) where
  -- the entry of the state before the token at position i and the state after it
  abbrev pub factor : Run → ℕ → V
  factor r i = cell O (table_at (transitions O S) w r.letters i) (slice_index r.states i) (slice_index r.states (suc i))

  -- the start entry of the first state, one factor for each token, the finish entry of the last state
  abbrev pub run_weight : Run → V
  run_weight r =
      product O (slice_index_or S.start (slice_index r.states 0) O.zero
      ∷ (map (factor r) (range_with_len 0 (length w)) ++ (slice_index_or S.finish (slice_index r.states (length w)) O.zero ∷ [])))

-- each of these lists of states with each of these lists of letters
abbrev pub runs_over : List (List ℕ) → List (List ℕ) → List Run
runs_over qss [] = []
runs_over qss (ls ∷ lss) = map (λ qs. record { states = qs; letters = ls }) qss ++ runs_over qss lss

module _ {V : Type 0} (S : Sheet V) (w : List Token) where
  -- the runs on a text: one state more than tokens, and as many letters as opening tags
  abbrev pub IsRun : Run → Type 0
  IsRun r = Listed S.states (suc (length w)) r.states × Listed S.letters (count_opens w) r.letters

  abbrev pub all_runs : List Run
  all_runs = runs_over (all_lists S.states (suc (length w))) (all_lists S.letters (count_opens w))

-- the weight of a text
abbrev pub weight : {V : Type 0} → Ops V → Sheet V → List Token → V
weight O S w = sum_over O (all_runs S w) (run_weight O S w)
