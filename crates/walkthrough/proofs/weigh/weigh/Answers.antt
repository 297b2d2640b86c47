use Rattle.std.proofs.Common.{◌≡◌, take, take_all, rules}
use Rattle.kernels.specs.Entries.{value_between}
use Rattle.kernels.proofs.Loops.{of_entries}
use Rattle.walkthrough.specs.Weight.{text_table}
use Rattle.walkthrough.proofs.Texts.{entries_more}
use Rattle.walkthrough.proofs.weigh.weigh.Goals as goal

pub loop-place-preserved : goal.loop-place-preserved
loop-place-preserved g c =
    entries_more g.met.A.Semiring.lawful c.args.sheet.now c.args.text.now c.loop-place.place-counter _ _ _ _
    c.loop-place-test.true c.from-class.ensures c.table-table.ensures c.loop-place.invariant c.product-running.ensures

pub returns : goal.returns
returns g c =
    let O = g.A.Semiring.ops in
    let sheet = c.args.sheet.now in
    let text = c.args.text.now in
    let weighed : c.unwrap-2.result ≡ value_between O 2 sheet.start c.loop-place.running sheet.finish = search rules in
    let held = of_entries O (text_table O sheet (take c.loop-place.place-counter text)) in
    let whole = take_all c.loop-place.place-counter text c.loop-place-test.false in
    cc
