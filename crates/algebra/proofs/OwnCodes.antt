-- Values that are numbered, each number but 0 its own code, have codes one to one.
use Rattle.std.proofs.Common.{◌≡◌, ℕ, zero, suc, ◌^◌, ◌<◌, ◌≤◌, Some, None, Ok, sym, ap, ◌∙◌, arith}
use native.Mathlib.Decide.{dec_lt}
use Rattle.algebra.specs.Codes.{Coded, own_code, own_value, own_codes}

module _ {V : Type 0} (number_of : V → ℕ) (bound : ℕ) (with_number : (c : ℕ) → c < bound → V)
    (unique : (v w : V) → number_of v ≡ number_of w → v ≡ w)
    (numbered : (c : ℕ) (h : c < bound) → number_of (with_number c h) ≡ c) where
  code_none : (v : V) → own_code number_of bound with_number v ≡ None → number_of v ≡ 0
  code_none v h = grind arith

  code_some : (v : V) (c : ℕ) → own_code number_of bound with_number v ≡ Some c → (number_of v ≡ c) × (0 < c)
  code_some v c h = grind arith

  some_code : (v : V) → 0 < number_of v → own_code number_of bound with_number v ≡ Some (number_of v)
  some_code v h = grind arith

  pub own_value_at : (v : V) (c : ℕ) (d : Dec (c < bound)) → number_of v ≡ c → 0 < c → c < bound → own_value number_of bound with_number c d ≡ Ok v
  own_value_at v zero d e some below = absurd (omega arith)
  own_value_at v (suc c) (yes h) e some below = ap Ok (unique _ _ (numbered (suc c) h ∙ sym e))
  own_value_at v (suc c) (no f) e some below = absurd (f below)

  pub code_of_value : (c : ℕ) (d : Dec (c < bound)) (v : V) → own_value number_of bound with_number c d ≡ Ok v → (number_of v ≡ c) × (0 < c)
  code_of_value zero d v h = absurd (cc)
  code_of_value (suc c) (yes below) v h = let z : with_number (suc c) below ≡ v = cc in (sym (ap number_of z) ∙ numbered (suc c) below, omega arith)
  code_of_value (suc c) (no beyond) v h = absurd (cc)

  pub own_coded : (zero_value : V) (number width : ℕ) → ((v : V) → number_of v < bound) → number_of zero_value ≡ 0
      → number < 256 → 1 ≤ width → width ≤ 4 → bound ≤ 256 ^ width → Coded zero_value (own_codes number_of bound with_number number width)
  own_coded zero_value number width below zero_number fits some few wide = record {
    number_fits = fits;
    width_some = some;
    width_few = few;
    zero_has_none = grind (arith, zero_number);
    none_but_zero = λ v h. unique v zero_value (code_none v h ∙ sym zero_number);
    code_fits = λ v c h. omega (arith, code_some v c h, below v);
    value_of_code = λ v c h. let n = code_some v c h in own_value_at v c (dec_lt c bound) n.0 n.1 (omega (arith, n.0, below v));
    code_of_value = λ c v h. let n = code_of_value c (dec_lt c bound) v h in some_code v (omega (arith, n.0, n.1)) ∙ ap Some n.0;
  }
