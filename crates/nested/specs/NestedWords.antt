-- Nested words after Alur and Madhusudan: the matchings of a text, and the one that it has.
use Rattle.std.specs.Prelude.{◌≡◌, ℕ, zero, suc, ◌<◌, ◌≤◌, ◌↔◌, List, [], ◌∷◌, ◌≢◌}
use Rattle.nested.specs.declared.token.Token.{Token}
use Rattle.nested.specs.declared.token.Token.TheVariants.{Text, Mark, Opening, Closing}
use Rattle.nested.specs.Tokens.{Opens, Closes, token_at}

infix 50 ◌≺◌ ◌≼◌
-- an edge joins two positions, or a position and an end: from -∞ to a pending close, from a pending open to +∞
pub data End : Type 0 where
  -∞ : End
  at : ℕ → End
  +∞ : End

abbrev pub ◌≺◌ : End → End → Type 0
-∞ ≺ -∞ = ⊥
-∞ ≺ at j = Unit {0}
-∞ ≺ +∞ = Unit {0}
at i ≺ -∞ = ⊥
at i ≺ at j = i < j
at i ≺ +∞ = Unit {0}
+∞ ≺ y = ⊥

abbrev pub ◌≼◌ : End → End → Type 0
-∞ ≼ y = Unit {0}
at i ≼ -∞ = ⊥
at i ≼ at j = i ≤ j
at i ≼ +∞ = Unit {0}
+∞ ≼ -∞ = ⊥
+∞ ≼ at j = ⊥
+∞ ≼ +∞ = Unit {0}

-- E x y says that there is an edge from x to y
pub record Matching (w : List Token) (E : End → End → Type 0) : Type 0 where
  -- edges go forward, and each has a position
  pub forward : (x y : End) → E x y → x ≺ y
  pub touches : E -∞ +∞ → ⊥
  -- no two edges share a position
  pub one_out : (i : ℕ) (y z : End) → E (at i) y → E (at i) z → y ≡ z
  pub one_in : (j : ℕ) (x y : End) → E x (at j) → E y (at j) → x ≡ y
  -- edges do not cross
  pub uncrossed : (x y x' y' : End) → E x y → E x' y' → x ≺ x' → x' ≼ y → y ≺ y' → ⊥
  -- they leave exactly the opening tags, and reach exactly the closing tags
  pub opens : (i : ℕ) → Opens (token_at w i) ↔ ((y : End) × E (at i) y)
  pub closes : (j : ℕ) → Closes (token_at w j) ↔ ((x : End) × E x (at j))

-- the waiting opens after the token at i: an open waits, and a close ends the wait of the latest
abbrev pub next : Token → ℕ → List ℕ → List ℕ
next (Text c) i σ = σ
next (Mark t) i σ = σ
next (Opening a) i σ = i ∷ σ
next (Closing b) i [] = []
next (Closing b) i (o ∷ σ) = σ

-- the positions of the opens that wait before position i, the latest first
abbrev pub waiting : List Token → ℕ → List ℕ
waiting w zero = []
waiting w (suc i) = next (token_at w i) i (waiting w i)

abbrev pub latest : List ℕ → End
latest [] = -∞
latest (o ∷ σ) = at o

-- what a close at j matches: the latest open that waits
abbrev pub partner : List Token → ℕ → End
partner w j = latest (waiting w j)

-- the edges of a text: each close with its partner, and each open that no close matches with +∞
abbrev pub Edge : List Token → End → End → Type 0
Edge w x -∞ = ⊥
Edge w x (at j) = Closes (token_at w j) × (partner w j ≡ x)
Edge w -∞ +∞ = ⊥
Edge w (at i) +∞ = Opens (token_at w i) × ((j : ℕ) → Closes (token_at w j) → partner w j ≢ at i)
Edge w +∞ +∞ = ⊥
