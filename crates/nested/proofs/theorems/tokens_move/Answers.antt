use Rattle.algebra.proofs.TableLaws.{table_laws}
use Rattle.nested.specs.Sheets.{transitions}
use Rattle.nested.proofs.Joins.{summary_next}
use Rattle.nested.proofs.theorems.tokens_move.Goals as goal

pub returns : goal.returns
returns g c = λ S u t. summary_next (table_laws g.met.S.Semiring.lawful S.states) (transitions g.S.Semiring.ops S) u t
