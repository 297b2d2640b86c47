-- The scores are a semiring, and their codes are one to one.
use Rattle.std.specs.Prelude.{◌≡◌, ℕ, ◌+◌, ◌<◌, Some, None, Ok, Option, refl}
use Rattle.std.proofs.Common.{sym, ap, arith, lit<, lit≤}
use Rattle.std.proofs.Math.Decide.{dec_lt}
use Rattle.algebra.specs.Semiring.{Laws}
use Rattle.algebra.specs.Codes.{Coded}
use Rattle.algebra.proofs.BelowLaws.{below_path}
use Rattle.score.specs.Score.{most, Points, capped, score_plus, score_times, scores, score_code, score_of, score_codes}

pub same : {a b : Points} → a.number ≡ b.number → ◌≡◌ {A = Option Points} (Some a) (Some b)
same e = ap Some (below_path e)

-- where a score is none, both sides of a law compute to the same
plus_assoc : (x y z : Option Points) → score_plus (score_plus x y) z ≡ score_plus x (score_plus y z)
plus_assoc (Some a) (Some b) (Some c) = same (omega arith)
plus_assoc x y z = refl

plus_comm : (x y : Option Points) → score_plus x y ≡ score_plus y x
plus_comm (Some a) (Some b) = same (omega arith)
plus_comm None (Some b) = refl
plus_comm x y = refl

plus_zero : (x : Option Points) → score_plus x None ≡ x
plus_zero None = refl
plus_zero (Some a) = refl

times_assoc : (x y z : Option Points) → score_times (score_times x y) z ≡ score_times x (score_times y z)
times_assoc (Some a) (Some b) (Some c) = same (omega arith)
times_assoc x y z = refl

one_times : (x : Option Points) → score_times (Some (capped 0)) x ≡ x
one_times None = refl
one_times (Some a) = same (omega (arith, a.within))

times_one : (x : Option Points) → score_times x (Some (capped 0)) ≡ x
times_one None = refl
times_one (Some a) = same (omega (arith, a.within))

times_plus : (x y z : Option Points) → score_times x (score_plus y z) ≡ score_plus (score_times x y) (score_times x z)
times_plus (Some a) (Some b) (Some c) = same (omega arith)
times_plus x y z = refl

plus_times : (x y z : Option Points) → score_times (score_plus x y) z ≡ score_plus (score_times x z) (score_times y z)
plus_times (Some a) (Some b) (Some c) = same (omega arith)
plus_times (Some a) None (Some c) = refl
plus_times x y z = refl

times_zero : (x : Option Points) → score_times x None ≡ None
times_zero None = refl
times_zero (Some a) = refl

pub score_laws : Laws scores
score_laws = record {
  plus_assoc = plus_assoc;
  plus_comm = plus_comm;
  plus_zero = plus_zero;
  times_assoc = times_assoc;
  one_times = one_times;
  times_one = times_one;
  times_plus = times_plus;
  plus_times = plus_times;
  zero_times = λ x. refl;
  times_zero = times_zero;
}

pub score_of_number : (a : Points) (c : ℕ) (d : Dec (c < most + 1)) → a.number ≡ c → score_of c d ≡ Ok (Some a)
score_of_number a c (yes h) e = ap Ok (same (sym e))
score_of_number a c (no f) e = absurd (f (omega (arith, a.within)))

none_but_zero : (v : Option Points) → score_code v ≡ None → v ≡ None
none_but_zero None e = refl
none_but_zero (Some a) e = cc

code_fits : (v : Option Points) (c : ℕ) → score_code v ≡ Some c → c < 4294967296
code_fits None c e = absurd (cc)
code_fits (Some a) c e = let z : a.number ≡ c = cc in omega (arith, z, a.within)

value_of_code : (v : Option Points) (c : ℕ) → score_code v ≡ Some c → score_of c (dec_lt c (most + 1)) ≡ Ok v
value_of_code None c e = cc
value_of_code (Some a) c e = score_of_number a c (dec_lt c (most + 1)) cc

code_of_value : (c : ℕ) (d : Dec (c < most + 1)) (v : Option Points) → score_of c d ≡ Ok v → score_code v ≡ Some c
code_of_value c (yes h) v e = let z : Some (record { number = c; within = h }) ≡ v = cc in ap score_code (sym z)
code_of_value c (no f) v e = cc

pub score_coded : Coded None score_codes
score_coded = record {
  number_fits = lit< tt;
  width_some = lit≤ tt;
  width_few = lit≤ tt;
  zero_has_none = refl;
  none_but_zero = none_but_zero;
  code_fits = code_fits;
  value_of_code = value_of_code;
  code_of_value = λ c v. code_of_value c (dec_lt c (most + 1)) v;
}
