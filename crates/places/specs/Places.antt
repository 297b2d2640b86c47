-- Tables at places of one list of weights.
use Rattle.std.specs.Prelude.{◌≡◌, ℕ, ◌+◌, ◌*◌, ◌<◌, ◌≤◌, ◌⊎◌, List, length}
use Rattle.algebra.specs.Semiring.{Ops}
use Rattle.algebra.specs.Tables.{Table, filled}
use Rattle.kernels.specs.Entries.{read}

module _ {V : Type 0} (O : Ops V) where
  -- the n by n table whose entries stand from a place on, row by row
  unfoldable pub table_in : (n : ℕ) → List V → ℕ → Table V n
  table_in n w place = filled O n (λ p q. read O w (place + (p * n + q)))

  -- what stands before a place, and behind so many weights from there on, is as it was
  abbrev pub Kept : (place size : ℕ) → List V → List V → Type 0
  Kept place size before after = (k : ℕ) → (k < place) ⊎ (place + size ≤ k) → read O after k ≡ read O before k

-- so many weights from a place on are there
abbrev pub Fits : {V : Type 0} → ℕ → ℕ → List V → Type 0
Fits place size w = place + size ≤ length w

-- a stretch of m weights at x, and one of k weights at y, have none in common
abbrev pub Apart : (x m y k : ℕ) → Type 0
Apart x m y k = (x + m ≤ y) ⊎ (y + k ≤ x)
