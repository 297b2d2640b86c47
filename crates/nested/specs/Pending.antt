-- The pending tags of a text, and which texts are shallow or too deep.
use Rattle.std.specs.Prelude.{◌≡◌, ℕ, ◌<◌, ◌≤◌, ◌⊎◌, List, [], ◌∷◌, ◌++◌, length}
use Rattle.nested.specs.declared.token.Token.{Token}
use Rattle.nested.specs.declared.token.Token.TheVariants.{Text, Mark, Opening, Closing}

-- with the opens σ waiting before the text, the latest first: the closes that find no open waiting, in order
abbrev pub closes_after : List ℕ → List Token → List ℕ
closes_after σ [] = []
closes_after σ (Text c ∷ w) = closes_after σ w
closes_after σ (Mark t ∷ w) = closes_after σ w
closes_after σ (Opening a ∷ w) = closes_after (a ∷ σ) w
closes_after [] (Closing b ∷ w) = b ∷ closes_after [] w
closes_after (a ∷ σ) (Closing b ∷ w) = closes_after σ w

-- and the opens that wait at its end, the latest first
abbrev pub opens_after : List ℕ → List Token → List ℕ
opens_after σ [] = σ
opens_after σ (Text c ∷ w) = opens_after σ w
opens_after σ (Mark t ∷ w) = opens_after σ w
opens_after σ (Opening a ∷ w) = opens_after (a ∷ σ) w
opens_after [] (Closing b ∷ w) = opens_after [] w
opens_after (a ∷ σ) (Closing b ∷ w) = opens_after σ w

-- how many closes and opens of a text are pending
abbrev pub pending_closes : List Token → ℕ
pending_closes w = length (closes_after [] w)

abbrev pub pending_opens : List Token → ℕ
pending_opens w = length (opens_after [] w)

-- more is pending than an item or a record holds
abbrev pub TooDeep : List Token → Type 0
TooDeep w = (16 < pending_opens w) ⊎ (32 < pending_closes w)

abbrev pub Prefix : List Token → List Token → Type 0
Prefix p w = (q : List Token) × (p ++ q ≡ w)

-- at most 16 opens are unmatched after any token, and at most 16 closes are pending
pub record Shallow (w : List Token) : Type 0 where
  pub few_opens : (p : List Token) → Prefix p w → pending_opens p ≤ 16
  pub few_closes : pending_closes w ≤ 16
