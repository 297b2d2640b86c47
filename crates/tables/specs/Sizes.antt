-- The sizes of tables.
use Rattle.std.specs.Prelude.{ℕ, ◌*◌, ◌≤◌, List}
use Rattle.kernels.specs.Entries.{Long}

-- tables have one to four rows
pub record Size (n : ℕ) : Type 0 where
  pub some : 1 ≤ n
  pub few : n ≤ 4

-- the entries of an n by n table
abbrev pub Square : {V : Type 0} → ℕ → List V → Type 0
Square n xs = Size n × Long (n * n) xs
