use Rattle.algebra.proofs.TableLaws.{table_laws}
use Rattle.algebra.proofs.theorems.tables_are_a_semiring.Goals as goal

pub returns : goal.returns
returns g c = table_laws g.met.S.Semiring.lawful c.args.n
