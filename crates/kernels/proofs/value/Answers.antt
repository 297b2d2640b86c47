use Rattle.std.proofs.Common.{◌≡◌, ◌+◌, ◌*◌, ◌-◌, ◌∙◌, add-one, arith}
use Rattle.std.proofs.lemmas.List.{get_or_read}
use Rattle.kernels.proofs.Loops.{row_long, value_by_rows}
use Rattle.kernels.proofs.value.Goals as goal

pub loop-p-preserved : goal.loop-p-preserved
loop-p-preserved g c =
    let n = c.args.n in
    let p = c.loop-p.p in
    let whole : p * n + n - p * n ≡ n = omega arith in
    let long = row_long n p c.args.table.now (omega arith) c.requires.middle in
    let first = get_or_read c.args.start.now p _ (omega arith) c.index-start-p.is g.S.Semiring.ops.zero in
    let rest = rw (whole, long) at c.dot-rest.ensures in
    rw add-one cc

pub returns : goal.returns
returns g c =
    let all : c.loop-p.p ≡ c.args.n = omega arith in
    rw all at c.loop-p.invariant ∙ value_by_rows g.met.S.Semiring.lawful c.args.n c.args.start.now c.args.table.now c.args.finish.now
