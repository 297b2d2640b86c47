-- Joining is replaying the right summary's moves on the left; so it is associative, with the empty summary neutral.
use Rattle.std.proofs.Common.{◌≡◌, ℕ, List, [], ◌∷◌, ◌++◌, sym, refl, ap, ◌∙◌, append_assoc, append-nil}
use Rattle.algebra.specs.Semiring.{Ops, Laws}
use Rattle.nested.specs.declared.token.Token.{Token}
use Rattle.nested.specs.declared.token.Token.TheVariants.{Opening, Closing}
use Rattle.nested.specs.Summaries.{Transitions, Close, Open, Summary, summary, empty, last_times, pair, pairing, join, of_token, extended, of_text}
use Rattle.nested.specs.Moves.{Move, by, push, pop, close_moves, open_moves, moves, popped, step, replay, move}

pub close_moves-append : {T : Type 0} (cs ds : List (Close T)) → close_moves (cs ++ ds) ≡ close_moves cs ++ close_moves ds
close_moves-append [] ds = refl
close_moves-append (c ∷ cs) ds = ap (λ ss. by c.before ∷ pop c.tag ∷ ss) (close_moves-append cs ds)

module _ {T : Type 0} (O : Ops T) (M : Transitions T) where
  pub replay-append : (ss rs : List (Move T)) (L : Summary T) → replay O M (ss ++ rs) L ≡ replay O M rs (replay O M ss L)
  replay-append [] rs L = refl
  replay-append (s ∷ ss) rs L = replay-append ss rs (step O M s L)

  pub extended_append : (L : Summary T) (u v : List Token) → extended O M L (u ++ v) ≡ extended O M (extended O M L u) v
  extended_append L [] v = refl
  extended_append L (t ∷ u) v = extended_append (join O M L (of_token O M t)) u v

module _ {T : Type 0} {O : Ops T} (S : Laws O) (M : Transitions T) where
  -- the moves of opens put them behind the others
  replay_opens : (os : List (Open T)) (L : Summary T) → replay O M (open_moves os) L ≡ summary L.closes L.middle (os ++ L.opens)
  replay_opens [] L = refl
  replay_opens (o ∷ os) L = simp (replay-append O M, replay_opens os, S.one_times)

  -- and those of closes, where no open waits, put them behind the others
  replay_closes : (ds cs : List (Close T)) → replay O M (close_moves ds) (summary cs O.one []) ≡ summary (cs ++ ds) O.one []
  replay_closes [] cs = ap (λ x. summary x O.one []) (sym (append-nil cs))
  replay_closes (d ∷ ds) cs = simp (replay_closes ds, append_assoc, S.one_times)

  replay_rest : (ds cs : List (Close T)) (n : T) (ps : List (Open T)) → replay O M (close_moves ds ++ (by n ∷ open_moves ps)) (summary cs O.one []) ≡ summary (cs ++ ds) n ps
  replay_rest ds cs n ps = simp (replay-append O M, replay_closes, replay_opens, S.one_times, append-nil)

  pairing_replay : (cs : List (Close T)) (m : T) (os : List (Open T)) (ds : List (Close T)) (n : T) (ps : List (Open T)) → pairing O M cs m os ds n ps ≡ replay O M (close_moves ds ++ (by n ∷ open_moves ps)) (summary cs m os)
  pairing_replay cs m os [] n ps = sym (replay_opens ps (last_times O cs m os n))
  pairing_replay cs m [] (d ∷ ds) n ps = simp (replay_rest ds, append_assoc)
  pairing_replay cs m (o ∷ os) (d ∷ ds) n ps =
      let L = last_times O cs m os (pair O M o.tag (O.times o.after d.before) d.tag) in
      pairing_replay L.closes L.middle L.opens ds n ps

  pub join_replay : (L R : Summary T) → join O M L R ≡ replay O M (moves R) L
  join_replay L R = pairing_replay L.closes L.middle L.opens R.closes R.middle R.opens

  -- two tables in a row are their product, and one is none
  by_by : (x y : T) (L : Summary T) → step O M (by y) (step O M (by x) L) ≡ step O M (by (O.times x y)) L
  by_by x y L = elim (L.opens) as (λ os. step O M (by y) (last_times O L.closes L.middle os x) ≡ last_times O L.closes L.middle os (O.times x y)) [
    | [] ↦ simp S.times_assoc
    | o ∷ os ↦ simp S.times_assoc
  ]

  pub by_one : (L : Summary T) → step O M (by O.one) L ≡ L
  by_one L = elim (L.opens) as (λ os. last_times O L.closes L.middle os O.one ≡ summary L.closes L.middle os) [
    | [] ↦ simp S.times_one
    | o ∷ os ↦ simp S.times_one
  ]

  pub join_empty : (L : Summary T) → join O M L (empty O) ≡ L
  join_empty L = join_replay L (empty O) ∙ by_one L

  pub empty_join : (R : Summary T) → join O M (empty O) R ≡ R
  empty_join R = join_replay (empty O) R ∙ replay_rest R.closes [] R.middle R.opens

  -- the moves of a summary after one more move are its own moves and that one
  replay_by : (L : Summary T) (cs : List (Close T)) (m : T) (os : List (Open T)) (x : T) → replay O M (moves (last_times O cs m os x)) L ≡ step O M (by x) (replay O M (moves (summary cs m os)) L)
  replay_by L cs m [] x = simp (replay-append O M, by_by)
  replay_by L cs m (o ∷ os) x = simp (replay-append O M, by_by)

  replay_pop : (L : Summary T) (cs : List (Close T)) (m : T) (os : List (Open T)) (b : ℕ) → replay O M (moves (popped O M cs m os b)) L ≡ step O M (pop b) (replay O M (moves (summary cs m os)) L)
  replay_pop L cs m [] b = simp (close_moves-append, replay-append O M, by_one)
  replay_pop L cs m (o ∷ os) b = replay_by L cs m os (pair O M o.tag o.after b) ∙ simp (replay-append O M, S.one_times)

  replay_step : (L R : Summary T) (s : Move T) → replay O M (moves (step O M s R)) L ≡ step O M s (replay O M (moves R) L)
  replay_step L R (by x) = replay_by L R.closes R.middle R.opens x
  replay_step L R (push a) = simp (replay-append O M, by_one)
  replay_step L R (pop b) = replay_pop L R.closes R.middle R.opens b

  replay_replay : (L R : Summary T) (ss : List (Move T)) → replay O M (moves (replay O M ss R)) L ≡ replay O M ss (replay O M (moves R) L)
  replay_replay L R [] = refl
  replay_replay L R (s ∷ ss) = replay_replay L (step O M s R) ss ∙ ap (replay O M ss) (replay_step L R s)

  pub join_assoc : (A B C : Summary T) → join O M (join O M A B) C ≡ join O M A (join O M B C)
  join_assoc A B C =
      rw (join_replay (join O M A B) C, join_replay A B, join_replay A (join O M B C), join_replay B C) (sym (replay_replay A B (moves C)))

  -- texts
  pub extended_join : (L : Summary T) (w : List Token) → extended O M L w ≡ join O M L (of_text O M w)
  extended_join L [] = sym (join_empty L)
  extended_join L (t ∷ w) =
      extended_join (join O M L (of_token O M t)) w
      ∙ join_assoc L (of_token O M t) (of_text O M w)
      ∙ ap (join O M L) (sym (extended_join (of_token O M t) w) ∙ ap (λ R. extended O M R w) (sym (empty_join (of_token O M t))))

  pub summary_append : (u v : List Token) → of_text O M (u ++ v) ≡ join O M (of_text O M u) (of_text O M v)
  summary_append u v = extended_append O M (empty O) u v ∙ extended_join (of_text O M u) v

  -- joining with a token is one step
  pub join_token : (L : Summary T) (t : Token) → join O M L (of_token O M t) ≡ step O M (move O M t) L
  join_token L (Opening a) = join_replay L (of_token O M (Opening a)) ∙ by_one _ ∙ ap (step O M (push a)) (by_one L)
  join_token L (Closing b) = join_replay L (of_token O M (Closing b)) ∙ by_one _ ∙ ap (step O M (pop b)) (by_one L)
  join_token L t = join_replay L (of_token O M t)

  pub summary_next : (u : List Token) (t : Token) → of_text O M (u ++ (t ∷ [])) ≡ step O M (move O M t) (of_text O M u)
  summary_next u t = extended_append O M (empty O) u (t ∷ []) ∙ join_token (of_text O M u) t
