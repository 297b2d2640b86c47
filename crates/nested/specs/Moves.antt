-- The three moves by which a summary grows at its right end: by a table, over an open, over a close.
use Rattle.std.specs.Prelude.{ℕ, List, [], ◌∷◌, ◌++◌}
use Rattle.algebra.specs.Semiring.{Ops}
use Rattle.nested.specs.declared.token.Token.{Token}
use Rattle.nested.specs.declared.token.Token.TheVariants.{Text, Mark, Opening, Closing}
use Rattle.nested.specs.Summaries.{Transitions, Close, Open, Summary, close, opened, summary, last_times, pair}

pub data Move (T : Type 0) : Type 0 where
  by : T → Move T
  push : ℕ → Move T
  pop : ℕ → Move T

abbrev pub close_moves : {T : Type 0} → List (Close T) → List (Move T)
close_moves [] = []
close_moves (c ∷ cs) = by c.before ∷ pop c.tag ∷ close_moves cs

abbrev pub open_moves : {T : Type 0} → List (Open T) → List (Move T)
open_moves [] = []
open_moves (o ∷ os) = open_moves os ++ (push o.tag ∷ by o.after ∷ [])

-- the moves that make a summary
abbrev pub moves : {T : Type 0} → Summary T → List (Move T)
moves R = close_moves R.closes ++ (by R.middle ∷ open_moves R.opens)

module _ {T : Type 0} (O : Ops T) (M : Transitions T) where
  -- a close pairs with the last open, or else is pending itself
  abbrev pub popped : List (Close T) → T → List (Open T) → ℕ → Summary T
  popped cs m [] b = summary (cs ++ (close m b ∷ [])) O.one []
  popped cs m (o ∷ os) b = last_times O cs m os (pair O M o.tag o.after b)

  abbrev pub step : Move T → Summary T → Summary T
  step (by x) L = last_times O L.closes L.middle L.opens x
  step (push a) L = summary L.closes L.middle (opened a O.one ∷ L.opens)
  step (pop b) L = popped L.closes L.middle L.opens b

  -- one move after the other
  abbrev pub replay : List (Move T) → Summary T → Summary T
  replay [] L = L
  replay (s ∷ ss) L = replay ss (step s L)

  -- the move that a token is
  abbrev pub move : Token → Move T
  move (Text c) = by (M.text c)
  move (Mark t) = by (M.mark t)
  move (Opening a) = push a
  move (Closing b) = pop b
