use Rattle.algebra.proofs.TableLaws.{table_laws}
use Rattle.nested.specs.Sheets.{transitions}
use Rattle.nested.proofs.Joins.{empty_join, join_empty}
use Rattle.nested.proofs.theorems.empty_is_neutral.Goals as goal

pub returns : goal.returns
returns g c = λ S R.
    let H = table_laws g.met.S.Semiring.lawful S.states in
    let M = transitions g.S.Semiring.ops S in
    (empty_join H M R, join_empty H M R)
