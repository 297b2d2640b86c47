use Rattle.algebra.proofs.TableLaws.{table_laws}
use Rattle.nested.specs.Sheets.{transitions}
use Rattle.nested.proofs.Joins.{summary_append}
use Rattle.nested.proofs.theorems.summaries_join.Goals as goal

pub returns : goal.returns
returns g c = λ S u v. summary_append (table_laws g.met.S.Semiring.lawful S.states) (transitions g.S.Semiring.ops S) u v
