-- How many tags are pending in two texts in a row, and in a stretch of a shallow text.
use Rattle.std.proofs.Common.{◌≡◌, ℕ, ◌+◌, ◌-◌, ◌≤◌, List, [], ◌∷◌, ◌++◌, length, refl, ap, inl, inr, append_assoc, arith, length-append}
use Rattle.nested.specs.declared.token.Token.{Token}
use Rattle.nested.specs.declared.token.Token.TheVariants.{Opening, Closing}
use Rattle.nested.specs.Pending.{closes_after, opens_after, pending_closes, pending_opens, TooDeep, Prefix, Shallow}

-- behind the waiting opens σ
pub closes_from : (σ : List ℕ) (w : List Token) → length (closes_after σ w) ≡ pending_closes w - length σ
closes_from σ [] = omega arith
closes_from σ (Opening a ∷ w) = omega (arith, closes_from (a ∷ σ) w, closes_from (a ∷ []) w)
closes_from [] (Closing b ∷ w) = omega arith
closes_from (a ∷ σ) (Closing b ∷ w) = omega (arith, closes_from σ w)
closes_from σ (t ∷ w) = closes_from σ w

pub opens_from : (σ : List ℕ) (w : List Token) → length (opens_after σ w) ≡ pending_opens w + (length σ - pending_closes w)
opens_from σ [] = omega arith
opens_from σ (Opening a ∷ w) = omega (arith, opens_from (a ∷ σ) w, opens_from (a ∷ []) w, closes_from (a ∷ []) w)
opens_from [] (Closing b ∷ w) = omega arith
opens_from (a ∷ σ) (Closing b ∷ w) = omega (arith, opens_from σ w)
opens_from σ (t ∷ w) = opens_from σ w

pub opens-append : (σ : List ℕ) (u v : List Token) → opens_after σ (u ++ v) ≡ opens_after (opens_after σ u) v
opens-append σ [] v = refl
opens-append σ (Opening a ∷ u) v = opens-append (a ∷ σ) u v
opens-append (a ∷ σ) (Closing b ∷ u) v = opens-append σ u v
opens-append σ (t ∷ u) v = opens-append σ u v

pub closes-append : (σ : List ℕ) (u v : List Token) → closes_after σ (u ++ v) ≡ closes_after σ u ++ closes_after (opens_after σ u) v
closes-append σ [] v = refl
closes-append σ (Opening a ∷ u) v = closes-append (a ∷ σ) u v
closes-append [] (Closing b ∷ u) v = ap (λ bs. b ∷ bs) (closes-append [] u v)
closes-append (a ∷ σ) (Closing b ∷ u) v = closes-append σ u v
closes-append σ (t ∷ u) v = closes-append σ u v

pub pending_opens-append : (u v : List Token) → pending_opens (u ++ v) ≡ pending_opens v + (pending_opens u - pending_closes v)
pending_opens-append u v = rw opens-append (opens_from _ v)

pub pending_closes-append : (u v : List Token) → pending_closes (u ++ v) ≡ pending_closes u + (pending_closes v - pending_opens u)
pending_closes-append u v = rw (closes-append, length-append, closes_from (opens_after [] u) v)

-- every prefix of a stretch of a shallow text
module _ (u v z : List Token) (shallow : Shallow (u ++ (v ++ z))) (p : List Token) (pre : Prefix p v) where
  cut : (u ++ p) ++ (pre.0 ++ z) ≡ u ++ (v ++ z)
  cut = rw (← pre.1) (simp append_assoc)

  pub stretch_opens : pending_opens p ≤ 16
  stretch_opens = omega (arith, shallow.few_opens (u ++ p) (pre.0 ++ z, cut), pending_opens-append u p)

  pub stretch_closes : pending_closes p ≤ 32
  stretch_closes =
      let all : pending_closes ((u ++ p) ++ (pre.0 ++ z)) ≤ 16 = rw cut shallow.few_closes in
      omega (arith, shallow.few_opens u (v ++ z, refl), pending_closes-append u p, pending_closes-append (u ++ p) (pre.0 ++ z))

  pub stretch_not_too_deep : TooDeep p → ⊥
  stretch_not_too_deep (inl more) = omega (arith, stretch_opens)
  stretch_not_too_deep (inr more) = omega (arith, stretch_closes)
