use Rattle.algebra.proofs.TableLaws.{table_laws}
use Rattle.nested.specs.Sheets.{transitions}
use Rattle.nested.proofs.PendingTags.{summary_close_tags, summary_open_tags}
use Rattle.nested.proofs.theorems.pending_tags_are_kept.Goals as goal

pub returns : goal.returns
returns g c = λ S w.
    let H = table_laws g.met.S.Semiring.lawful S.states in
    let M = transitions g.S.Semiring.ops S in
    (summary_close_tags H M w, summary_open_tags H M w)
