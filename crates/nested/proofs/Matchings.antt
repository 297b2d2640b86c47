-- The edges of a text are a matching of it, and the only one.
use Rattle.std.proofs.Common.{◌≡◌, ℕ, zero, suc, ◌<◌, ◌≤◌, ◌⊎◌, List, [], ◌∷◌, length, sym, refl, ap, ◌∙◌, subst, inl, inr, arith}
use borrow.Author.Count.{below_none, below_more}
use Rattle.std.proofs.lemmas.Bool.{cases_lt, cases_eq, cases_order}
use Rattle.std.proofs.lemmas.List.{get_or_past}
use Rattle.nested.specs.declared.token.Class.TheVariants.{Other}
use Rattle.nested.specs.declared.token.Token.{Token}
use Rattle.nested.specs.declared.token.Token.TheVariants.{Text, Opening, Closing}
use Rattle.nested.specs.Tokens.{Opens, Closes, token_at}
use Rattle.nested.specs.NestedWords.{End, -∞, at, +∞, ◌≺◌, ◌≼◌, Matching, next, waiting, latest, partner, Edge}

-- the positions in a stack, and stacks with the latest position first
abbrev In : ℕ → List ℕ → Type 0
In i [] = ⊥
In i (o ∷ σ) = (i ≡ o) ⊎ In i σ

abbrev Falling : List ℕ → Type 0
Falling [] = Unit {0}
Falling (o ∷ σ) = ((i : ℕ) → In i σ → i < o) × Falling σ

latest_in : (σ : List ℕ) (i : ℕ) → latest σ ≡ at i → In i σ
latest_in [] i e = cc
latest_in (o ∷ σ) i e = inl (cc)

latest_not : (σ : List ℕ) → latest σ ≡ +∞ → ⊥
latest_not [] e = cc
latest_not (o ∷ σ) e = cc

latest_most : (σ : List ℕ) (x : End) (i : ℕ) → Falling σ → In i σ → latest σ ≡ x → x ≺ at i → ⊥
latest_most [] x i f m e h = m
latest_most (o ∷ σ) x i f (inl s) e h = let k : o < i = subst (λ y. y ≺ at i) (sym e) h in omega arith
latest_most (o ∷ σ) x i f (inr m) e h = let k : o < i = subst (λ y. y ≺ at i) (sym e) h in omega (arith, f.0 i m)

next_from : (t : Token) (k : ℕ) (σ : List ℕ) (i : ℕ) → In i (next t k σ) → In i σ ⊎ ((i ≡ k) × Opens t)
next_from (Opening a) k σ i (inl e) = inr (e, tt)
next_from (Opening a) k σ i (inr m) = inl m
next_from (Closing b) k (o ∷ σ) i m = inl (inr m)
next_from t k σ i m = inl m

next_keeps : (t : Token) (k : ℕ) (σ : List ℕ) (i : ℕ) → In i σ → In i (next t k σ) ⊎ (Closes t × (latest σ ≡ at i))
next_keeps (Opening a) k σ i m = inl (inr m)
next_keeps (Closing b) k (o ∷ σ) i (inl e) = inr (tt, ap at (sym e))
next_keeps (Closing b) k (o ∷ σ) i (inr m) = inl m
next_keeps t k σ i m = inl m

next_open : (t : Token) (k : ℕ) (σ : List ℕ) → Opens t → In k (next t k σ)
next_open (Opening a) k σ o = inl refl
next_open t k σ o = absurd o

next_close : (t : Token) (k : ℕ) (σ : List ℕ) (i : ℕ) → Falling σ → Closes t → latest σ ≡ at i → In i (next t k σ) → ⊥
next_close (Closing b) k [] i f cl e m = m
next_close (Closing b) k (o ∷ σ) i f cl e m = let s : o ≡ i = cc in omega (arith, f.0 i m)
next_close t k σ i f cl e m = cl

next_falling : (t : Token) (k : ℕ) (σ : List ℕ) → ((i : ℕ) → In i σ → i < k) → Falling σ → Falling (next t k σ)
next_falling (Opening a) k σ low f = (low, f)
next_falling (Closing b) k (o ∷ σ) low f = f.1
next_falling t k σ low f = f

both : (t : Token) → Opens t → Closes t → ⊥
both (Opening a) o cl = cl
both t o cl = o

-- a tag stands within the text
inside_text : (P : Token → Type 0) → (P (Text Other) → ⊥) → (w : List Token) (i : ℕ) → P (token_at w i) → i < length w
inside_text P none w i here = elim (cases_lt i (length w)) [
  | inl below ↦ below
  | inr past ↦ absurd (none (subst P (get_or_past w i (Text Other) past) here))
]

-- some close before position k has the open at i as its partner
abbrev Matched : List Token → ℕ → ℕ → Type 0
Matched w k i = (j : ℕ) × (j < k) × Closes (token_at w j) × (partner w j ≡ at i)

module _ (w : List Token) where
  in_low : (k i : ℕ) → In i (waiting w k) → i < k
  in_low zero i m = absurd m
  in_low (suc k) i m = grind (arith, next_from (token_at w k) k (waiting w k) i m, in_low k i)

  in_opens : (k i : ℕ) → In i (waiting w k) → Opens (token_at w i)
  in_opens zero i m = absurd m
  in_opens (suc k) i m = grind (arith, next_from (token_at w k) k (waiting w k) i m, in_opens k i)

  falls : (k : ℕ) → Falling (waiting w k)
  falls zero = tt
  falls (suc k) = next_falling (token_at w k) k (waiting w k) (in_low k) (falls k)

  -- an open waits until its close
  unmatched : (k i : ℕ) → In i (waiting w k) → Matched w k i → ⊥
  unmatched zero i m d = m
  unmatched (suc k) i m d = elim (cases_eq d.0 k) [
    | inl e ↦ next_close (token_at w k) k (waiting w k) i (falls k) (subst (λ x. Closes (token_at w x)) e d.2) (ap (partner w) (sym e) ∙ d.3) m
    | inr ne ↦ elim (next_from (token_at w k) k (waiting w k) i m) [
      | inl before ↦ unmatched k i before (d.0, omega (arith, d.1), d.2, d.3)
      | inr here ↦ omega (arith, in_low d.0 i (latest_in (waiting w d.0) i d.3), d.1, here.0)
    ]
  ]

  waits : (k i : ℕ) → Opens (token_at w i) → i < k → In i (waiting w k) ⊎ Matched w k i
  waits zero i o h = absurd (omega arith)
  waits (suc k) i o h = elim (cases_eq i k) [
    | inl e ↦ inl (subst (λ x. In x (waiting w (suc k))) (sym e) (next_open (token_at w k) k (waiting w k) (subst (λ x. Opens (token_at w x)) e o)))
    | inr ne ↦ elim (waits k i o (omega arith)) [
      | inl m ↦ elim (next_keeps (token_at w k) k (waiting w k) i m) [
        | inl kept ↦ inl kept
        | inr c ↦ inr (k, omega arith, c.0, c.1)
      ]
      | inr d ↦ inr (d.0, omega (arith, d.1), d.2, d.3)
    ]
  ]

  edge_forward : (x y : End) → Edge w x y → x ≺ y
  edge_forward -∞ (at j) e = tt
  edge_forward (at i) (at j) e = in_low j i (latest_in (waiting w j) i e.1)
  edge_forward +∞ (at j) e = latest_not (waiting w j) e.1
  edge_forward (at i) +∞ e = tt
  edge_forward x y e = absurd e

  edge_opens : (i : ℕ) (y : End) → Edge w (at i) y → Opens (token_at w i)
  edge_opens i -∞ e = absurd e
  edge_opens i (at j) e = in_opens j i (latest_in (waiting w j) i e.1)
  edge_opens i +∞ e = e.0

  -- no close before the edge's end matches its open
  edge_first : (i : ℕ) (y : End) (k : ℕ) → Edge w (at i) y → at k ≺ y → Matched w k i → ⊥
  edge_first i -∞ k e h d = e
  edge_first i (at j) k e h d = unmatched j i (latest_in (waiting w j) i e.1) (d.0, omega (arith, d.1), d.2, d.3)
  edge_first i +∞ k e h d = e.1 d.0 d.2 d.3

  edge_one_out : (i : ℕ) (y z : End) → Edge w (at i) y → Edge w (at i) z → y ≡ z
  edge_one_out i -∞ z e f = absurd e
  edge_one_out i y -∞ e f = absurd f
  edge_one_out i (at j) (at k) e f = elim (cases_order j k) [
    | inl s ↦ ap at s
    | inr (inl h) ↦ absurd (unmatched k i (latest_in (waiting w k) i f.1) (j, h, e.0, e.1))
    | inr (inr h) ↦ absurd (unmatched j i (latest_in (waiting w j) i e.1) (k, h, f.0, f.1))
  ]
  edge_one_out i (at j) +∞ e f = absurd (f.1 j e.0 e.1)
  edge_one_out i +∞ (at k) e f = absurd (e.1 k f.0 f.1)
  edge_one_out i +∞ +∞ e f = refl

  -- an open inside an edge of a close still waits there
  inside : (x : End) (j i : ℕ) (z : End) → Edge w x (at j) → Edge w (at i) z → x ≺ at i → i ≤ j → at j ≺ z → ⊥
  inside x j i z e f before h past = elim (cases_eq i j) [
    | inl s ↦ both (token_at w j) (subst (λ k. Opens (token_at w k)) s (edge_opens i z f)) e.0
    | inr ne ↦ elim (waits j i (edge_opens i z f) (omega arith)) [
      | inl m ↦ latest_most (waiting w j) x i (falls j) m e.1 before
      | inr d ↦ edge_first i z j f past d
    ]
  ]

  edge_uncrossed : (x y x' y' : End) → Edge w x y → Edge w x' y' → x ≺ x' → x' ≼ y → y ≺ y' → ⊥
  edge_uncrossed x -∞ x' y' e f a b c = e
  edge_uncrossed x +∞ x' y' e f a b c = c
  edge_uncrossed -∞ (at j) -∞ y' e f a b c = a
  edge_uncrossed (at i) (at j) -∞ y' e f a b c = a
  edge_uncrossed +∞ (at j) -∞ y' e f a b c = a
  edge_uncrossed x (at j) (at k) y' e f a b c = inside x j k y' e f a b c
  edge_uncrossed x (at j) +∞ y' e f a b c = b

  edge_out : (i : ℕ) → Opens (token_at w i) → (y : End) × Edge w (at i) y
  edge_out i o = elim (waits (length w) i o (inside_text Opens (λ none. none) w i o)) [
    | inl m ↦ (+∞, (o, λ j c e. unmatched (length w) i m (j, inside_text Closes (λ none. none) w j c, c, e)))
    | inr d ↦ (at d.0, (d.2, d.3))
  ]

  pub text_matching : Matching w (Edge w)
  text_matching = record {
    forward = edge_forward;
    touches = λ e. e;
    one_out = edge_one_out;
    one_in = λ j x y e f. sym e.1 ∙ f.1;
    uncrossed = edge_uncrossed;
    opens = λ i. (edge_out i, λ e. edge_opens i e.0 e.1);
    closes = λ j. (λ c. (partner w j, (c, refl)), λ e. e.1.0);
  }

-- any matching of the text has the same edges
module _ (w : List Token) (E : End → End → Type 0) (M : Matching w E) where
  -- an edge to j comes from j's partner; so far as position k
  abbrev Partnered : ℕ → Type 0
  Partnered j = (x : End) → E x (at j) → partner w j ≡ x

  abbrev Agrees : ℕ → Type 0
  Agrees k = (j : ℕ) → j < k → Partnered j

  -- a matched open has its edge in E, so an open whose edge reaches k waits there
  reached : (k : ℕ) → Agrees k → (i : ℕ) → E (at i) (at k) → In i (waiting w k)
  reached k agrees i e = elim (waits w k i ((M.opens i).1 (at k, e)) (M.forward (at i) (at k) e)) [
    | inl m ↦ m
    | inr d ↦
        let c = (M.closes d.0).0 d.2 in
        let s : c.0 ≡ at i = sym (agrees d.0 d.1 c.0 c.1) ∙ d.3 in
        let t : at d.0 ≡ at k = M.one_out i (at d.0) (at k) (subst (λ x. E x (at d.0)) s c.1) e in
        let u : d.0 ≡ k = cc in
        absurd (omega (arith, d.1))
  ]

  -- and one that waits at k has an edge to k or past it
  late : (k : ℕ) → Agrees k → (i : ℕ) → In i (waiting w k) → (y : End) → E (at i) y → (y ≡ at k) ⊎ (at k ≺ y)
  late k agrees i m -∞ e = absurd (M.forward (at i) -∞ e)
  late k agrees i m (at j) e = elim (cases_order j k) [
    | inl s ↦ inl (ap at s)
    | inr (inl h) ↦ absurd (unmatched w k i m (j, h, (M.closes j).1 (at i, e), agrees j h (at i) e))
    | inr (inr h) ↦ inr h
  ]
  late k agrees i m +∞ e = inr tt

  -- if E's edge to k is from x, no open that waits there stands after x
  same_open : (k : ℕ) → Agrees k → (o : ℕ) → In o (waiting w k) → (x : End) → E x (at k) → x ≺ at o → at o ≡ x
  same_open k agrees o m x e before =
      let f = (M.opens o).0 (in_opens w k o m) in
      elim (late k agrees o m f.0 f.1) [
        | inl s ↦ M.one_in k (at o) x (subst (E (at o)) s f.1) e
        | inr past ↦ absurd (M.uncrossed x (at k) (at o) f.0 e f.1 before (omega (arith, in_low w k o m)) past)
      ]

  pick : (k : ℕ) (σ : List ℕ) → Falling σ → (x : End) → x ≺ at k → ((i : ℕ) → x ≡ at i → In i σ) → ((o : ℕ) → In o σ → x ≺ at o → at o ≡ x) → latest σ ≡ x
  pick k σ f +∞ h in_σ none_after = absurd h
  pick k [] f -∞ h in_σ none_after = refl
  pick k [] f (at i) h in_σ none_after = absurd (in_σ i refl)
  pick k (o ∷ σ) f -∞ h in_σ none_after = none_after o (inl refl) tt
  pick k (o ∷ σ) f (at i) h in_σ none_after = elim (in_σ i refl) [
    | inl e ↦ ap at (sym e)
    | inr m ↦ none_after o (inl refl) (f.0 i m)
  ]

  partnered : (k : ℕ) → Agrees k → Partnered k
  partnered k agrees x e =
      pick k (waiting w k) (falls w k) x (M.forward x (at k) e) (λ i s. reached k agrees i (subst (λ y. E y (at k)) s e)) (λ o m. same_open k agrees o m x e)

  agree : (k : ℕ) → Agrees k
  agree zero = below_none Partnered
  agree (suc k) = λ j h. below_more Partnered k (agree k) (partnered k (agree k)) j (omega arith)

  to_partner : (j : ℕ) → Partnered j
  to_partner j = partnered j (agree j)

  from_partner : (j : ℕ) (x : End) → Closes (token_at w j) → partner w j ≡ x → E x (at j)
  from_partner j x c s = let f = (M.closes j).0 c in subst (λ y. E y (at j)) (sym (to_partner j f.0 f.1) ∙ s) f.1

  pub edge_of : (x y : End) → E x y → Edge w x y
  edge_of +∞ y e = absurd (M.forward +∞ y e)
  edge_of x (at j) e = ((M.closes j).1 (x, e), to_partner j x e)
  edge_of -∞ +∞ e = absurd (M.touches e)
  edge_of (at i) +∞ e = ((M.opens i).1 (+∞, e), λ j c s. let z : at j ≡ +∞ = M.one_out i (at j) +∞ (from_partner j (at i) c s) e in cc)
  edge_of x -∞ e = absurd (M.forward x -∞ e)

  pub of_edge : (x y : End) → Edge w x y → E x y
  of_edge (at i) +∞ e = at_end ((M.opens i).0 e.0)
    where
      at_end : (y : End) × E (at i) y → E (at i) +∞
      at_end (-∞, f) = absurd (M.forward (at i) -∞ f)
      at_end (at j, f) = absurd (e.1 j ((M.closes j).1 (at i, f)) (to_partner j (at i) f))
      at_end (+∞, f) = f
  of_edge x (at j) e = from_partner j x e.0 e.1
  of_edge x y e = absurd e
