-- Summaries: what is kept of a piece of text for its neighbours, over any semiring of tables.
use Rattle.std.specs.Prelude.{ℕ, List, [], ◌∷◌, ◌++◌}
use Rattle.algebra.specs.Semiring.{Ops, sum_to}
use Rattle.nested.specs.declared.token.Class.{Class}
use Rattle.nested.specs.declared.token.Token.{Token}
use Rattle.nested.specs.declared.token.Token.TheVariants.{Text, Mark, Opening, Closing}

-- the tables of an automaton: an open pushes a letter below `letters`, a close pops one, or reads the bottom of the stack
pub record Transitions (T : Type 0) : Type 0 where
  pub letters : ℕ
  pub text : Class → T
  pub mark : ℕ → T
  pub bottom : ℕ → T
  pub opening : ℕ → ℕ → T
  pub closing : ℕ → ℕ → T

-- a pending close, with the table before it
pub record Close (T : Type 0) : Type 0 where
  pub before : T
  pub tag : ℕ

-- a pending open, with the table after it
pub record Open (T : Type 0) : Type 0 where
  pub tag : ℕ
  pub after : T

-- the pending closes in order; the table between the closes and the opens; the pending opens, the last one first
pub record Summary (T : Type 0) : Type 0 where
  pub closes : List (Close T)
  pub middle : T
  pub opens : List (Open T)

abbrev pub close : {T : Type 0} → T → ℕ → Close T
close x b = record { before = x; tag = b }

abbrev pub opened : {T : Type 0} → ℕ → T → Open T
opened a y = record { tag = a; after = y }

abbrev pub summary : {T : Type 0} → List (Close T) → T → List (Open T) → Summary T
summary cs m os = record { closes = cs; middle = m; opens = os }

module _ {T : Type 0} (O : Ops T) where
  -- the summary of the empty text
  abbrev pub empty : Summary T
  empty = summary [] O.one []

  -- the summary of these closes, middle and opens, with its last table times x
  abbrev pub last_times : List (Close T) → T → List (Open T) → T → Summary T
  last_times cs m [] x = summary cs (O.times m x) []
  last_times cs m (o ∷ os) x = summary cs m (opened o.tag (O.times o.after x) ∷ os)

  -- a summary, with more opens behind its own
  abbrev pub then_opens : Summary T → List (Open T) → Summary T
  then_opens L ps = summary L.closes L.middle (ps ++ L.opens)

  module _ (M : Transitions T) where
    -- an open a and a close b, with y between them: the sum over the letter that the one pushes and the other pops
    abbrev pub pair : ℕ → T → ℕ → T
    pair a y b = sum_to O M.letters (λ c. O.times (O.times (M.opening a c) y) (M.closing b c))

    -- The left's closes, middle and opens, and the right's. While there are both, the left's last open, with y after it,
    -- and the right's first close, with v before it, pair up: what then ends the left is multiplied by their pair over y · v.
    -- At the end the left's last table times the right's first stands between the rests.
    abbrev pub pairing : List (Close T) → T → List (Open T) → List (Close T) → T → List (Open T) → Summary T
    pairing cs m os [] n ps = then_opens (last_times cs m os n) ps
    pairing cs m [] (d ∷ ds) n ps = summary (cs ++ (close (O.times m d.before) d.tag ∷ ds)) n ps
    pairing cs m (o ∷ os) (d ∷ ds) n ps =
        let L = last_times cs m os (pair o.tag (O.times o.after d.before) d.tag) in
        pairing L.closes L.middle L.opens ds n ps

    abbrev pub join : Summary T → Summary T → Summary T
    join L R = pairing L.closes L.middle L.opens R.closes R.middle R.opens

    -- the summary of one token
    abbrev pub of_token : Token → Summary T
    of_token (Text c) = summary [] (M.text c) []
    of_token (Mark t) = summary [] (M.mark t) []
    of_token (Opening a) = summary [] O.one (opened a O.one ∷ [])
    of_token (Closing b) = summary (close O.one b ∷ []) O.one []

    -- a summary joined with each token of a text in turn
    abbrev pub extended : Summary T → List Token → Summary T
    extended L [] = L
    extended L (t ∷ w) = extended (join L (of_token t)) w

    -- the summary of a text: its tokens joined from the left
    abbrev pub of_text : List Token → Summary T
    of_text w = extended empty w

    abbrev pub close_strip : List (Close T) → List T
    close_strip [] = []
    close_strip (c ∷ cs) = c.before ∷ M.bottom c.tag ∷ close_strip cs

    abbrev pub open_strip : List (Open T) → List T
    open_strip [] = []
    open_strip (o ∷ os) = open_strip os ++ (sum_to O M.letters (M.opening o.tag) ∷ o.after ∷ [])

    -- each table in order, the bottom table in place of a close, the open tables added over all letters in place of an open
    abbrev pub strip : Summary T → List T
    strip R = close_strip R.closes ++ (R.middle ∷ open_strip R.opens)
