use Rattle.std.proofs.Common.{◌≡◌, take}
use Rattle.walkthrough.specs.Weight.{text_table}
use Rattle.walkthrough.proofs.weigh.weigh.Given as goal

abbrev pub invariant-loop-place : goal.invariant-loop-place
invariant-loop-place g l = l.running ≡ (text_table g.A.Semiring.ops l.sheet (take l.place-counter l.text)).entries
