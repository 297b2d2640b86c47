use Rattle.std.proofs.Common.{◌≡◌, ◌+◌, ◌-◌, ◌++◌, length, take, drop, ap, ap₂, sym, ◌∙◌, arith}
use Rattle.std.proofs.Math.Seq.{drop-append-add}
use Rattle.places.proofs.stretch.Goals as goal

pub returns-else-x-before : goal.returns-else-x-before
returns-else-x-before g c = λ room long.
    let before = c.args.before.now in
    let behind = c.args.behind.now in
    let at = c.args.x - length before - c.args.size in
    let there : length before + (length room + at) ≡ c.args.x = omega arith in
    ap₂ take (omega arith)
    (sym (drop-append-add room behind at) ∙ sym (drop-append-add before (room ++ behind) (length room + at))
    ∙ ap (λ k. drop k (before ++ (room ++ behind))) there)
