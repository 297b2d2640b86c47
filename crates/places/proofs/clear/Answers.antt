use Rattle.std.proofs.Common.{◌≡◌, ℕ, zero, suc, ◌+◌, ◌*◌, ◌<◌, List, [], ◌∷◌, length, get_or, take, arith, rules, length-take-le}
use Rattle.std.specs.List.{FoldsTo}
use Rattle.std.proofs.lemmas.List.Edits.{length-between}
use Rattle.algebra.specs.Tables.{table_zero}
use Rattle.kernels.proofs.Loops.{all_rows, place}
use Rattle.places.proofs.Frames.{table_between}
use Rattle.places.proofs.clear.Goals as goal

-- what each call returned
each_item : {F V : Type 0} (R : F → V → F → Type 0) (v : V) (each : (f : F) (x : V) (g : F) → R f x g → x ≡ v)
    (f last : F) (xs : List V) → FoldsTo R f xs last → (k : ℕ) (d : V) → k < length xs → get_or xs k d ≡ v
each_item R v each f last [] folds k d h = absurd (omega arith)
each_item R v each f last (x ∷ xs) folds zero d h = each f x folds.0 folds.1
each_item R v each f last (x ∷ xs) folds (suc k) d h = each_item R v each folds.0 last xs folds.2 k d (omega arith)

pub returns-clause-made : goal.returns-clause-made
returns-clause-made g c =
    let O = g.S.Semiring.ops in
    let n = c.args.n in
    let w = c.args.w.now in
    let out = c.args.out in
    let room = length-between w out (out + n * n) (omega arith) in
    let ran = c.fill_with.ensures.ran in
    table_between O n out (take out w) c.fill_with.new.self _ (table_zero O n) (length-take-le out w (omega arith))
    (all_rows O n c.fill_with.new.self (λ p q. O.zero) (omega arith)
    (λ p hp q hq. each_item _ O.zero (λ f x h s. search rules) _ _ c.fill_with.new.self ran.1 _ O.zero (omega (arith, place n p q hp hq))))
