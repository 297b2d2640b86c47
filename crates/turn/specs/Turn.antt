-- Turn: sets of pairs (i, j) of the directions 0, 1, 2. The sum is the union, the product the composition of
-- relations. Each set but the empty one has its bits as code: bit 3 i + j for the pair (i, j).
use Rattle.std.specs.Prelude.{ℕ, ◌+◌, ◌*◌, Bool, false, List, [], ◌∷◌, slice_index_or, nat_eq}
use Rattle.turn.specs.declared.relation.Relation.{Relation}
use Rattle.algebra.specs.Semiring.{Ops, sum_to}
use Rattle.algebra.specs.Codes.{Codes, own_codes}
use Rattle.algebra.specs.Bits.{bits, number, number_below}
use Rattle.verdict.specs.Verdict.{or, and, verdicts}

-- (i, j) is in x
abbrev pub has : Relation → ℕ → ℕ → Bool
has x i j = slice_index_or (bits 9 x.bits) (3 * i + j) false

-- f at the nine pairs, in the order of their bits
abbrev pub nine_of : (ℕ → ℕ → Bool) → List Bool
nine_of f = f 0 0 ∷ f 0 1 ∷ f 0 2 ∷ f 1 0 ∷ f 1 1 ∷ f 1 2 ∷ f 2 0 ∷ f 2 1 ∷ f 2 2 ∷ []

-- the set of the pairs (i, j) with f i j
abbrev pub pairs_with : (ℕ → ℕ → Bool) → Relation
pairs_with f = record { bits = number (nine_of f); nine = number_below (nine_of f) }

-- the pairs (i, j) with entry 3 i in ps and entry j in qs
abbrev pub crossed : List Bool → List Bool → List Bool
crossed ps qs = nine_of (λ i j. and (slice_index_or ps (3 * i) false) (slice_index_or qs j false))

abbrev pub turns : Ops Relation
turns = record {
  zero = pairs_with (λ i j. false);
  one = pairs_with nat_eq;
  plus = λ x y. pairs_with (λ i j. or (has x i j) (has y i j));
  -- (i, m) is in x and (m, j) in y for some m
  times = λ x y. pairs_with (λ i j. sum_to verdicts 3 (λ m. and (has x i m) (has y m j)));
}

abbrev pub turn_codes : Codes Relation
turn_codes = own_codes (λ x. x.bits) 512 (λ c below. record { bits = c; nine = below }) 4 2
