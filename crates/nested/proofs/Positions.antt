-- The tables of a run by position, where a close finds its letter through the matching, are those by its stack of letters.
use Rattle.std.proofs.Common.{◌≡◌, ℕ, zero, suc, ◌+◌, List, [], ◌∷◌, map, length, take, drop, sym, refl, add-zero, add-one, arith, get_or-drop, drop-drop}
use Rattle.std.specs.List.{range_with_len}
use Rattle.nested.specs.declared.token.Token.{Token}
use Rattle.nested.specs.declared.token.Token.TheVariants.{Text, Mark, Opening, Closing}
use Rattle.nested.specs.Tokens.{token_at, count_opens}
use Rattle.nested.specs.NestedWords.{next, waiting, latest}
use Rattle.nested.specs.Summaries.{Transitions}
use Rattle.nested.specs.Runs.{letter_at, close_table, token_table, table_at}
use Rattle.nested.proofs.Traces.{trace}

dropped : (k : ℕ) (w : List Token) (t : Token) (v : List Token) → drop k w ≡ t ∷ v → (token_at w k ≡ t) × (drop (suc k) w ≡ v)
dropped zero [] t v e = absurd (cc)
dropped zero (s ∷ w) t v e = (cc, cc)
dropped (suc k) [] t v e = absurd (cc)
dropped (suc k) (s ∷ w) t v e = dropped k w t v e

count_next : (w : List Token) (k : ℕ) → count_opens (take (suc k) w) ≡ count_opens (take k w) + count_opens (token_at w k ∷ [])
count_next [] zero = omega arith
count_next [] (suc k) = omega arith
count_next (t ∷ w) zero = omega arith
count_next (Opening a ∷ w) (suc k) = omega (arith, count_next w k)
count_next (t ∷ w) (suc k) = count_next w k

module _ {T : Type 0} (M : Transitions T) where
  module _ (w : List Token) (ls : List ℕ) where
    -- the table of a token at position k, where the opens σ wait
    abbrev table_with : Token → ℕ → List ℕ → T
    table_with (Text c) k σ = M.text c
    table_with (Mark t) k σ = M.mark t
    table_with (Opening a) k σ = M.opening a (letter_at w ls k)
    table_with (Closing b) k σ = close_table M w ls b (latest σ)

    table_waiting : (t : Token) (k : ℕ) → table_with t k (waiting w k) ≡ token_table M w ls t k
    table_waiting (Closing b) k = refl
    table_waiting t k = refl

    -- the stack of letters is that of the waiting opens
    trace_next : (t : Token) (v : List Token) (k : ℕ) (σ : List ℕ) → trace M (t ∷ v) (map (letter_at w ls) σ) (drop (count_opens (take k w)) ls) ≡ table_with t k σ ∷ trace M v (map (letter_at w ls) (next t k σ)) (drop (count_opens (take k w) + count_opens (t ∷ [])) ls)
    trace_next (Opening a) v k σ = rw (get_or-drop (count_opens (take k w)) ls 0 0, add-zero, drop-drop 1 (count_opens (take k w)) ls)
    trace_next (Closing b) v k [] = rw add-zero
    trace_next t v k σ = rw add-zero

    from_position : (v : List Token) (k : ℕ) → drop k w ≡ v → trace M v (map (letter_at w ls) (waiting w k)) (drop (count_opens (take k w)) ls) ≡ map (table_at M w ls) (range_with_len k (length v))
    from_position [] k e = refl
    from_position (t ∷ v) k e =
        let d = dropped k w t v e in
        rw (← d.0, trace_next (token_at w k) v k (waiting w k), table_waiting (token_at w k) k, ← count_next w k, from_position v (suc k) d.1, add-one)

    pub by_position : map (table_at M w ls) (range_with_len 0 (length w)) ≡ trace M w [] ls
    by_position = sym (from_position w 0 refl)
