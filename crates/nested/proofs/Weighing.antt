-- The weight of a text, the sum over its runs by positions, is the value of its summary.
use Rattle.std.proofs.Common.{◌≡◌, ℕ, zero, suc, ◌+◌, ◌<◌, List, [], ◌∷◌, ◌++◌, map, length, get_or, drop, sym, ap, ◌∙◌, zero-add, add-one, arith, drop-cons}
use Rattle.std.specs.List.{range_with_len}
use Rattle.algebra.specs.Semiring.{Ops, Laws, sum_to, product, sum_over, all_lists}
use Rattle.algebra.specs.Tables.{Table, cell, table_ops}
use Rattle.algebra.proofs.Sums.{sum_below, times_sum, sum_times, sum_swap}
use Rattle.algebra.proofs.TableLaws.{cell-filled, one_in_row, table_laws}
use Rattle.algebra.proofs.Walks.{over_fronts, times_over}
use Rattle.algebra.proofs.SumsOver.{over_same, over_times, over_swap, over_lists, cell_over}
use Rattle.nested.specs.declared.token.Token.{Token}
use Rattle.nested.specs.Tokens.{count_opens}
use Rattle.nested.specs.Summaries.{strip}
use Rattle.nested.specs.Sheets.{Sheet, tables, transitions, summarised, value}
use Rattle.nested.specs.Runs.{table_at, run_weight, weight}
use Rattle.nested.proofs.RunLists.{run, over_runs}
use Rattle.nested.proofs.Traces.{trace, length-trace, runs_trace}
use Rattle.nested.proofs.Values.{runs_value}
use Rattle.nested.proofs.Joins.{summary_append}
use Rattle.nested.proofs.Positions.{by_position}

module _ {V : Type 0} {O : Ops V} (L : Laws O) where
  module _ (n : ℕ) (f : ℕ → V) where
    -- from state p through each table to the states rs, one after the other, and the last one's weight
    abbrev path : ℕ → List (Table V n) → List ℕ → V
    path p [] rs = f p
    path p (A ∷ As) [] = O.zero
    path p (A ∷ As) (r ∷ rs) = O.times (cell O A p r) (path r As rs)

    paths : (As : List (Table V n)) (p : ℕ) → p < n → sum_to O n (λ q. O.times (cell O (product (table_ops O n) As) p q) (f q)) ≡ sum_over O (all_lists n (length As)) (λ rs. path p As rs)
    paths [] p hp =
        sum_below L n _ _ (λ q hq. ap (λ x. O.times x (f q)) (cell-filled O n _ p q hp hq)) ∙ one_in_row L n p f hp
        ∙ sym (L.plus_zero (f p))
    paths (A ∷ As) p hp =
        sum_below L n _ _ (λ q hq. ap (λ x. O.times x (f q)) (cell-filled O n _ p q hp hq) ∙ simp (sum_times L n, L.times_assoc))
        ∙ sum_swap L n n (λ q r. O.times (cell O A p r) (O.times (cell O (product (table_ops O n) As) r q) (f q)))
        ∙ sum_below L n _ _ (λ r hr. sym (times_sum L n (cell O A p r) _) ∙ ap (O.times (cell O A p r)) (paths As r hr) ∙ times_over L _ _ _)
        ∙ sym (over_fronts L n _ (λ rs. path p (A ∷ As) rs))

    -- the factors by position, from position k on to position j
    factors : (F : ℕ → Table V n) (qs : List ℕ) (m k j : ℕ) → k + m ≡ j → j < length qs → product O (map (λ i. cell O (F i) (get_or qs i 0) (get_or qs (suc i) 0)) (range_with_len k m) ++ (f (get_or qs j 0) ∷ [])) ≡ path (get_or qs k 0) (map F (range_with_len k m)) (drop (suc k) qs)
    factors F qs zero k j e h = let same : j ≡ k = omega arith in rw same (L.times_one (f (get_or qs k 0)))
    factors F qs (suc m) k j e h =
        let more : suc k < length qs = omega arith in
        rw (add-one, drop-cons qs (suc k) 0 more) (ap (O.times (cell O (F k) (get_or qs k 0) (get_or qs (suc k) 0))) (factors F qs m (suc k) j (omega arith) h))

  module _ (S : Sheet V) (w : List Token) where
    abbrev n : ℕ
    n = S.states

    abbrev enter : ℕ → V
    enter p = get_or S.start p O.zero

    abbrev leave : ℕ → V
    leave q = get_or S.finish q O.zero

    abbrev letter_lists : List (List ℕ)
    letter_lists = all_lists S.letters (count_opens w)

    abbrev traced : List ℕ → List (Table V n)
    traced ls = trace (transitions O S) w [] ls

    -- the product of the tables of the run with letters ls
    abbrev done : List ℕ → Table V n
    done ls = product (tables O S) (traced ls)

    one_run : (ls : List ℕ) (p : ℕ) (rs : List ℕ) → length rs ≡ length w → run_weight O S w (run (p ∷ rs) ls) ≡ O.times (enter p) (path n leave p (traced ls) rs)
    one_run ls p rs h =
        ap (O.times (enter p))
        (factors n leave (table_at (transitions O S) w ls) (p ∷ rs) (length w) 0 (length w) (zero-add _) (omega arith)
        ∙ ap (λ As. path n leave p As rs) (by_position (transitions O S) w ls))

    runs_from : (ls : List ℕ) (p : ℕ) → p < n → sum_over O (all_lists n (length w)) (λ rs. run_weight O S w (run (p ∷ rs) ls)) ≡ sum_to O n (λ q. O.times (enter p) (O.times (cell O (done ls) p q) (leave q)))
    runs_from ls p hp =
        over_lists L n (length w) _ _ (one_run ls p)
        ∙ sym (sym (times_sum L n (enter p) _) ∙ ap (O.times (enter p)) (paths n leave (traced ls) p hp) ∙ simp (length-trace, times_over L))

    entry : (p q : ℕ) → p < n → q < n → sum_over O letter_lists (λ ls. cell O (done ls) p q) ≡ cell O (product (tables O S) (strip (tables O S) (transitions O S) (summarised O S w))) p q
    entry p q hp hq =
        sym (cell_over L n letter_lists done p q hp hq)
        ∙ ap (λ B. cell O B p q) (sym (runs_trace (table_laws L n) (transitions O S) w []) ∙ runs_value (table_laws L n) (transitions O S) w)

    pub weight_value : weight O S w ≡ value O S (summarised O S w)
    weight_value =
        over_runs L (all_lists n (suc (length w))) letter_lists (run_weight O S w)
        ∙ over_same O letter_lists (λ ls. over_fronts L n (all_lists n (length w)) (λ qs. run_weight O S w (run qs ls)) ∙ sum_below L n _ _ (runs_from ls))
        ∙ over_swap L letter_lists n (λ ls p. sum_to O n (λ q. O.times (enter p) (O.times (cell O (done ls) p q) (leave q))))
        ∙ sum_below L n _ _ (λ p hp.
        over_swap L letter_lists n (λ ls q. O.times (enter p) (O.times (cell O (done ls) p q) (leave q)))
        ∙ sum_below L n _ _ (λ q hq. rw (← entry p q hp hq) (simp (over_times L, times_over L, L.times_assoc))))

  -- texts with one summary may be exchanged in any text
  pub exchanged : (S : Sheet V) (u v : List Token) → summarised O S u ≡ summarised O S v → (x z : List Token) → weight O S (x ++ (u ++ z)) ≡ weight O S (x ++ (v ++ z))
  exchanged S u v same x z =
      let alike : summarised O S (x ++ (u ++ z)) ≡ summarised O S (x ++ (v ++ z)) = simp (summary_append (table_laws L S.states) (transitions O S), same) in
      weight_value S (x ++ (u ++ z)) ∙ ap (value O S) alike ∙ sym (weight_value S (x ++ (v ++ z)))
