-- The pending tags of a summary are those of its text, and how many a join has.
use Rattle.std.proofs.Common.{◌≡◌, ℕ, ◌+◌, ◌-◌, List, [], ◌∷◌, ◌++◌, map, length, sym, refl, ap, ◌∙◌, append_assoc, append-nil, arith, length-append}
use Rattle.std.proofs.lemmas.List.{length-map}
use mathlib.Core.List.{map-append}
use Rattle.algebra.specs.Semiring.{Ops, Laws}
use Rattle.nested.specs.declared.token.Token.{Token}
use Rattle.nested.specs.declared.token.Token.TheVariants.{Text, Closing}
use Rattle.nested.specs.Summaries.{Transitions, Close, Open, Summary, summary, empty, last_times, pair, pairing, join, of_token, extended, of_text}
use Rattle.nested.specs.Moves.{step, move}
use Rattle.nested.specs.Pending.{closes_after, opens_after, pending_closes, pending_opens}
use Rattle.nested.proofs.Joins.{join_token}

abbrev pub close_tags : {T : Type 0} → List (Close T) → List ℕ
close_tags cs = map (λ c. c.tag) cs

abbrev pub open_tags : {T : Type 0} → List (Open T) → List ℕ
open_tags os = map (λ o. o.tag) os

-- a table more leaves as many tags as there are
last_lengths : {T : Type 0} (O : Ops T) (cs : List (Close T)) (m : T) (os : List (Open T)) (x : T) → (length (last_times O cs m os x).closes ≡ length cs) × (length (last_times O cs m os x).opens ≡ length os)
last_lengths O cs m [] x = (refl, refl)
last_lengths O cs m (o ∷ os) x = (refl, refl)

module _ {T : Type 0} (O : Ops T) (M : Transitions T) where
  pairing_lengths : (cs : List (Close T)) (m : T) (os : List (Open T)) (ds : List (Close T)) (n : T) (ps : List (Open T))
      → (length (pairing O M cs m os ds n ps).closes ≡ length cs + (length ds - length os)) × (length (pairing O M cs m os ds n ps).opens ≡ length ps + (length os - length ds))
  pairing_lengths cs m os [] n ps = let l = last_lengths O cs m os n in (omega arith, simp length-append (omega arith))
  pairing_lengths cs m [] (d ∷ ds) n ps = (simp length-append (omega arith), omega arith)
  pairing_lengths cs m (o ∷ os) (d ∷ ds) n ps =
      let x = pair O M o.tag (O.times o.after d.before) d.tag in
      let L = last_times O cs m os x in
      let l = last_lengths O cs m os x in
      let rest = pairing_lengths L.closes L.middle L.opens ds n ps in
      (omega arith, omega arith)

  pub join_closes : (L R : Summary T) → length (join O M L R).closes ≡ length L.closes + (length R.closes - length L.opens)
  join_closes L R = (pairing_lengths L.closes L.middle L.opens R.closes R.middle R.opens).0

  pub join_opens : (L R : Summary T) → length (join O M L R).opens ≡ length R.opens + (length L.opens - length R.closes)
  join_opens L R = (pairing_lengths L.closes L.middle L.opens R.closes R.middle R.opens).1

  -- a token's step does to the tags what the token does; both compute at each stack and each token
  step_opens : (cs : List (Close T)) (m : T) (os : List (Open T)) (t : Token) (w : List Token) → opens_after (open_tags (step O M (move O M t) (summary cs m os)).opens) w ≡ opens_after (open_tags os) (t ∷ w)
  step_opens cs m [] (Text c) w = refl
  step_opens cs m (o ∷ []) (Text c) w = refl
  step_opens cs m (o ∷ p ∷ os) (Text c) w = refl
  step_opens cs m os t w = refl

  step_closes : (cs : List (Close T)) (m : T) (os : List (Open T)) (t : Token) (w : List Token) → (let R = step O M (move O M t) (summary cs m os) in close_tags R.closes ++ closes_after (open_tags R.opens) w) ≡ close_tags cs ++ closes_after (open_tags os) (t ∷ w)
  step_closes cs m [] (Closing b) w = simp (map-append, append_assoc)
  step_closes cs m (o ∷ []) (Text c) w = refl
  step_closes cs m (o ∷ p ∷ os) (Text c) w = refl
  step_closes cs m os t w = refl

module _ {T : Type 0} {O : Ops T} (S : Laws O) (M : Transitions T) where
  pub extended_open_tags : (L : Summary T) (w : List Token) → open_tags (extended O M L w).opens ≡ opens_after (open_tags L.opens) w
  extended_open_tags L [] = refl
  extended_open_tags L (t ∷ w) =
      extended_open_tags (join O M L (of_token O M t)) w
      ∙ ap (λ R. opens_after (open_tags R.opens) w) (join_token S M L t)
      ∙ step_opens O M L.closes L.middle L.opens t w

  pub extended_close_tags : (L : Summary T) (w : List Token) → close_tags (extended O M L w).closes ≡ close_tags L.closes ++ closes_after (open_tags L.opens) w
  extended_close_tags L [] = sym (append-nil (close_tags L.closes))
  extended_close_tags L (t ∷ w) =
      extended_close_tags (join O M L (of_token O M t)) w
      ∙ ap (λ R. close_tags R.closes ++ closes_after (open_tags R.opens) w) (join_token S M L t)
      ∙ step_closes O M L.closes L.middle L.opens t w

  pub summary_close_tags : (w : List Token) → close_tags (of_text O M w).closes ≡ closes_after [] w
  summary_close_tags w = extended_close_tags (empty O) w

  pub summary_open_tags : (w : List Token) → open_tags (of_text O M w).opens ≡ opens_after [] w
  summary_open_tags w = extended_open_tags (empty O) w

  pub summary_closes : (w : List Token) → length (of_text O M w).closes ≡ pending_closes w
  summary_closes w = sym (length-map (of_text O M w).closes (λ c. c.tag)) ∙ ap length (summary_close_tags w)

  pub summary_opens : (w : List Token) → length (of_text O M w).opens ≡ pending_opens w
  summary_opens w = sym (length-map (of_text O M w).opens (λ o. o.tag)) ∙ ap length (summary_open_tags w)
