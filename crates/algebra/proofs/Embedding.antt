-- What embeds into a semiring, keeping its operations, is a semiring.
use Rattle.std.proofs.Common.{◌≡◌}
use Rattle.algebra.specs.Semiring.{Ops, Laws}

pub record Keeps {A B : Type 0} (f : A → B) (P : Ops A) (O : Ops B) : Type 0 where
  pub zero_kept : f P.zero ≡ O.zero
  pub one_kept : f P.one ≡ O.one
  pub plus_kept : (x y : A) → f (P.plus x y) ≡ O.plus (f x) (f y)
  pub times_kept : (x y : A) → f (P.times x y) ≡ O.times (f x) (f y)

module _ {A B : Type 0} (f : A → B) {P : Ops A} {O : Ops B} (embeds : (x y : A) → f x ≡ f y → x ≡ y) (K : Keeps f P O) (S : Laws O) where
  pub embedded : Laws P
  embedded = record {
    plus_assoc = λ x y z. embeds _ _ (simp (K.plus_kept, S.plus_assoc));
    plus_comm = λ x y. embeds _ _ (simp K.plus_kept (S.plus_comm _ _));
    plus_zero = λ x. embeds _ _ (simp (K.plus_kept, K.zero_kept, S.plus_zero));
    times_assoc = λ x y z. embeds _ _ (simp (K.times_kept, S.times_assoc));
    one_times = λ x. embeds _ _ (simp (K.times_kept, K.one_kept, S.one_times));
    times_one = λ x. embeds _ _ (simp (K.times_kept, K.one_kept, S.times_one));
    times_plus = λ x y z. embeds _ _ (simp (K.times_kept, K.plus_kept, S.times_plus));
    plus_times = λ x y z. embeds _ _ (simp (K.times_kept, K.plus_kept, S.plus_times));
    zero_times = λ x. embeds _ _ (simp (K.times_kept, K.zero_kept, S.zero_times));
    times_zero = λ x. embeds _ _ (simp (K.times_kept, K.zero_kept, S.times_zero));
  }
