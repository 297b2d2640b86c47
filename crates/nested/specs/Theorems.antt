-- Theorems on nested words, runs and summaries, stated for the operations of a semiring; the functions that bear them ask for
-- its laws.
use Rattle.std.specs.Prelude.{◌≡◌, ◌+◌, ◌-◌, ◌↔◌, List, [], ◌∷◌, ◌++◌, map, length, ◌≢◌}
use mathlib.Core.List.{Memᴰ}
use Rattle.algebra.specs.Semiring.{Ops, sum_over}
use Rattle.nested.specs.declared.token.Token.{Token}
use Rattle.nested.specs.NestedWords.{End, Matching, Edge}
use Rattle.nested.specs.Summaries.{empty}
use Rattle.nested.specs.Moves.{moves, step, replay, move}
use Rattle.nested.specs.Sheets.{Sheet, tables, transitions, Item, joined, summarised, value}
use Rattle.nested.specs.Runs.{Run, IsRun, all_runs, weight}
use Rattle.nested.specs.Pending.{closes_after, opens_after, TooDeep, Prefix, Shallow}

-- the edges of a text are a matching of it
abbrev pub TextHasAMatching : Type 0
TextHasAMatching = (w : List Token) → Matching w (Edge w)

-- and whatever is a matching of it has the same edges
abbrev pub MatchingIsUnique : (End → End → Type 0) → Type 0
MatchingIsUnique E = (w : List Token) → Matching w E → (x y : End) → E x y ↔ Edge w x y

-- no stretch of a shallow text, and no prefix of a stretch, is too deep
abbrev pub StretchesAreNotTooDeep : Type 0
StretchesAreNotTooDeep = (u v z : List Token) → Shallow (u ++ (v ++ z)) → (p : List Token) → Prefix p v → TooDeep p → ⊥

module _ {V : Type 0} (O : Ops V) where
  abbrev pub JoinIsAssociative : Type 0
  JoinIsAssociative = (S : Sheet V) (A B C : Item S) → joined O S (joined O S A B) C ≡ joined O S A (joined O S B C)

  abbrev pub EmptyIsNeutral : Type 0
  EmptyIsNeutral = (S : Sheet V) (R : Item S) → (joined O S (empty (tables O S)) R ≡ R) × (joined O S R (empty (tables O S)) ≡ R)

  -- joining is replaying the right summary's moves on the left
  abbrev pub JoinReplays : Type 0
  JoinReplays = (S : Sheet V) (L R : Item S) → joined O S L R ≡ replay (tables O S) (transitions O S) (moves R) L

  -- the summary of u followed by v is the join of their summaries
  abbrev pub SummariesJoin : Type 0
  SummariesJoin = (S : Sheet V) (u v : List Token) → summarised O S (u ++ v) ≡ joined O S (summarised O S u) (summarised O S v)

  -- and one token more is one move
  abbrev pub TokensMove : Type 0
  TokensMove =
      (S : Sheet V) (u : List Token) (t : Token)
      → summarised O S (u ++ (t ∷ [])) ≡ step (tables O S) (transitions O S) (move (tables O S) (transitions O S) t) (summarised O S u)

  -- the sum over all runs on a text is the value of its summary
  abbrev pub WeightIsTheValue : Type 0
  WeightIsTheValue = (S : Sheet V) (w : List Token) → weight O S w ≡ value O S (summarised O S w)

  -- the runs that the weight sums over are exactly the runs on the text
  abbrev pub RunsAreAll : Type 0
  RunsAreAll = (S : Sheet V) (w : List Token) (r : Run) → Memᴰ r (all_runs S w) ↔ IsRun S w r

  -- and each stands there once: where every other run gives zero, the sum is what this one gives
  abbrev pub RunsStandOnce : Type 0
  RunsStandOnce =
      (S : Sheet V) (w : List Token) (r : Run) (f : Run → V) → IsRun S w r → ((other : Run) → (other ≢ r) → f other ≡ O.zero)
      → sum_over O (all_runs S w) f ≡ f r

  -- the pending tags of a summary are the text's
  abbrev pub PendingTagsAreKept : Type 0
  PendingTagsAreKept =
      (S : Sheet V) (w : List Token)
      → (map (λ c. c.tag) (summarised O S w).closes ≡ closes_after [] w) × (map (λ o. o.tag) (summarised O S w).opens ≡ opens_after [] w)

  -- in a join, each open of the left takes a close of the right
  abbrev pub JoinCounts : Type 0
  JoinCounts =
      (S : Sheet V) (L R : Item S)
      → (length (joined O S L R).closes ≡ length L.closes + (length R.closes - length L.opens))
      × (length (joined O S L R).opens ≡ length R.opens + (length L.opens - length R.closes))

  -- texts with the same summary may stand for each other in any text
  abbrev pub LikeMayBeExchanged : Type 0
  LikeMayBeExchanged =
      (S : Sheet V) (u v : List Token) → summarised O S u ≡ summarised O S v
      → (x z : List Token) → weight O S (x ++ (u ++ z)) ≡ weight O S (x ++ (v ++ z))
