-- The relations are a semiring, since they are the 3 by 3 tables of verdicts; and their codes are one to one.
use Rattle.std.specs.Prelude.{◌≡◌, ℕ, ◌*◌, ◌/◌, ◌<◌, Bool, true, false, [], ◌∷◌, Ok, ◌≢◌, bit_and, bit_or, refl}
use Rattle.std.proofs.Common.{sym, ap, ap₂, ◌∙◌, arith, lit<, lit≤}
use Rattle.std.proofs.lemmas.Nat.{and_comm}
use native.Mathlib.Nat.{div-div-eq-div-mul}
use mathlib.Core.HLevel.{is_prop→PathP}
use Rattle.std.proofs.Math.Bridge.{le_prop}
use Rattle.algebra.specs.Semiring.{Laws}
use Rattle.algebra.specs.Codes.{Coded}
use Rattle.algebra.specs.Bits.{bits, number}
use Rattle.algebra.specs.Tables.{Table, filled}
use Rattle.verdict.specs.Verdicts.{verdict_laws}
use Rattle.verdict.specs.Verdict.{and}
use Rattle.turn.specs.declared.relation.Relation.{Relation}
use Rattle.turn.specs.Turn.{crossed, turns, turn_codes}
use Rattle.algebra.proofs.OwnCodes.{own_coded, own_value_at}
use Rattle.algebra.proofs.BitLists.{bits-number, number-bits}
use Rattle.turn.specs.BitLists.{ors, or_number, and_bits}
use Rattle.algebra.proofs.Embedding.{embedded}
use Rattle.algebra.proofs.TableLaws.{table_path, table_laws}

-- the ghost field has one proof at most
pub same : {x y : Relation} → x.bits ≡ y.bits → x ≡ y
same {x} {y} e = λ i. record { bits = e i; nine = is_prop→PathP (λ j. e j < 512) (λ j. le_prop) x.nine y.nine i }

-- row i and column j say whether (i, j) is in the set
table : Relation → Table Bool 3
table x = record { entries = bits 9 x.bits; sized = refl }

table_embeds : (x y : Relation) → table x ≡ table y → x ≡ y
unfolding table
table_embeds x y e = same (sym (number-bits 9 x.bits x.nine) ∙ ap (λ t. number t.entries) e ∙ number-bits 9 y.bits y.nine)

pub turn_laws : Laws turns
unfolding table filled
turn_laws = embedded table table_embeds (record {
  zero_kept = table_path _ _ (bits-number _);
  one_kept = table_path _ _ (bits-number _);
  plus_kept = λ x y. table_path _ _ (bits-number _);
  times_kept = λ x y. table_path _ _ (bits-number _);
}) (table_laws verdict_laws 3)

pub turn_coded : Coded turns.zero turn_codes
turn_coded =
    own_coded (λ x. x.bits) 512 (λ c below. record { bits = c; nine = below }) (λ x y. same) (λ c below. refl)
    turns.zero 4 2 (λ x. x.nine) refl (lit< tt) (lit≤ tt) (lit≤ tt) (lit≤ tt)

pub turn_value_at : (x : Relation) → (x.bits ≢ 0) → turn_codes.value x.bits ≡ Ok x
turn_value_at x some =
    own_value_at (λ y. y.bits) 512 (λ c below. record { bits = c; nine = below }) (λ y z. same) (λ c below. refl)
    x x.bits _ refl (omega arith) x.nine

-- a row of three bits, at each place of a column of three bits
spread : (p q r a b c : Bool) → number (p ∷ false ∷ false ∷ q ∷ false ∷ false ∷ r ∷ []) * number (a ∷ b ∷ c ∷ [])
    ≡ number (and p a ∷ and p b ∷ and p c ∷ and q a ∷ and q b ∷ and q c ∷ and r a ∷ and r b ∷ and r c ∷ [])
spread p q r a b c = grind arith

pub crossing : (column row : ℕ) → bit_and column 73 * bit_and row 7 ≡ number (crossed (bits 7 column) (bits 3 row))
crossing column row =
    ap₂ ◌*◌
    (and_comm column 73 ∙ and_bits (true ∷ false ∷ false ∷ true ∷ false ∷ false ∷ true ∷ []) column)
    (and_comm row 7 ∙ and_bits (true ∷ true ∷ true ∷ []) row)
    ∙ spread _ _ _ _ _ _

pub union : (x y : Relation) → bit_or x.bits y.bits ≡ (turns.plus x y).bits
union x y =
    ap₂ bit_or (sym (number-bits 9 x.bits x.nine)) (sym (number-bits 9 y.bits y.nine))
    ∙ or_number (bits 9 x.bits) (bits 9 y.bits)

-- the pairs by way of 0, of 1 and of 2
pub composition : (x y : Relation) (r s t : ℕ)
    → r ≡ number (crossed (bits 7 x.bits) (bits 3 y.bits))
    → s ≡ number (crossed (bits 7 (x.bits / 2)) (bits 3 (y.bits / 8)))
    → t ≡ number (crossed (bits 7 (x.bits / 4)) (bits 3 (y.bits / 64)))
    → bit_or (bit_or r s) t ≡ (turns.times x y).bits
composition x y r s t by_0 by_1 by_2 =
    let c₀ = crossed (bits 7 x.bits) (bits 3 y.bits) in
    let c₁ = crossed (bits 7 (x.bits / 2)) (bits 3 (y.bits / 8)) in
    let c₂ = crossed (bits 7 (x.bits / 4)) (bits 3 (y.bits / 64)) in
    ap₂ bit_or (ap₂ bit_or by_0 by_1 ∙ or_number c₀ c₁) by_2 ∙ or_number (ors c₀ c₁) c₂ ∙ simp div-div-eq-div-mul
