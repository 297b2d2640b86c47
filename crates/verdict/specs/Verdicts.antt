-- No and yes are a semiring.
use Rattle.std.proofs.Common.{rules}
use Rattle.algebra.specs.Semiring.{Laws}
use Rattle.verdict.specs.Verdict.{verdicts}

pub verdict_laws : Laws verdicts
verdict_laws = search rules
