-- Sheets: weighted visibly pushdown automata, over texts with named tags.
use Rattle.std.specs.Prelude.{◌≡◌, ℕ, ◌+◌, ◌*◌, ◌≤◌, All, AllPairs, List, length, ◌≢◌, slice_index_or}
use Rattle.algebra.specs.Semiring.{Ops, product}
use Rattle.algebra.specs.Tables.{Table, table_ops, between}
use Rattle.nested.specs.declared.token.Token.{Token}
use Rattle.nested.specs.Classes.{class_number}
use Rattle.nested.specs.Summaries.{Transitions, Summary, join, of_text, strip}

-- Rows have a weight, and tables a row, for each state. Text tables stand by class, mark and bottom tables by tag, and open
-- and close tables by tag and within a tag by letter.
pub record Sheet (V : Type 0) : Type 0 where
  pub states : ℕ
  pub letters : ℕ
  pub names : List (List ℕ)
  pub start : List V
  pub finish : List V
  pub texts : List (Table V states)
  pub marks : List (Table V states)
  pub bottoms : List (Table V states)
  pub opens : List (Table V states)
  pub closes : List (Table V states)

abbrev pub tags : {V : Type 0} → Sheet V → ℕ
tags S = length S.names

-- a number from low to high
abbrev pub Between : ℕ → ℕ → ℕ → Type 0
Between low high k = (low ≤ k) × (k ≤ high)

-- one to eight letters a to z
abbrev pub Name : List ℕ → Type 0
Name name = Between 1 8 (length name) × All (Between 97 122) name

-- no two are equal
abbrev pub Apart : List (List ℕ) → Type 0
Apart names = AllPairs (λ x y. x ≢ y) names

-- the sheets that can be written: their sizes are in range, and nothing is missing or left over
pub record Proper {V : Type 0} (S : Sheet V) : Type 0 where
  pub states_fit : Between 1 4 S.states
  pub letters_fit : Between 1 8 S.letters
  pub tags_fit : Between 1 8 (tags S)
  pub named : All Name S.names
  pub apart : Apart S.names
  pub start_long : length S.start ≡ S.states
  pub finish_long : length S.finish ≡ S.states
  pub texts_all : length S.texts ≡ 3
  pub marks_all : length S.marks ≡ tags S
  pub bottoms_all : length S.bottoms ≡ tags S
  pub opens_all : length S.opens ≡ tags S * S.letters
  pub closes_all : length S.closes ≡ tags S * S.letters

-- a summary on a sheet
abbrev pub Item : {V : Type 0} → Sheet V → Type 0
Item {V} S = Summary (Table V S.states)

module _ {V : Type 0} (O : Ops V) (S : Sheet V) where
  -- the semiring of the sheet's tables
  abbrev pub tables : Ops (Table V S.states)
  tables = table_ops O S.states

  -- table number k of a list, and zero past its end
  abbrev pub table_number : List (Table V S.states) → ℕ → Table V S.states
  table_number As k = slice_index_or As k tables.zero

  abbrev pub transitions : Transitions (Table V S.states)
  transitions = record {
    letters = S.letters;
    text = λ c. table_number S.texts (class_number c);
    mark = table_number S.marks;
    bottom = table_number S.bottoms;
    opening = λ a c. table_number S.opens (a * S.letters + c);
    closing = λ b c. table_number S.closes (b * S.letters + c);
  }

  abbrev pub joined : Item S → Item S → Item S
  joined = join tables transitions

  abbrev pub summarised : List Token → Item S
  summarised = of_text tables transitions

  -- start · the product of the strip · finish
  abbrev pub value : Item S → V
  value R = between O S.start (product tables (strip tables transitions R)) S.finish
