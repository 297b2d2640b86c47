-- What the calls on tables answer, for what fits and for what does not.
use Rattle.std.specs.Prelude.{◌≡◌, List, Ok, Err, Result}
use Rattle.tables.specs.declared.Misfit.{Misfit}

-- accepted exactly where P holds
abbrev pub Tested : {A : Type 0} → Type 0 → Result A Misfit → Type 0
Tested P (Ok a) = P
Tested P (Err e) = P → ⊥

-- accepted exactly where P holds, and then the slice holds these entries; a refusal leaves what it held
abbrev pub Written : {V A : Type 0} → Type 0 → List V → List V → Result A Misfit → List V → Type 0
Written P entries before (Ok a) after = P × (after ≡ entries)
Written P entries before (Err e) after = (P → ⊥) × (after ≡ before)

-- accepted exactly where P holds, with this answer
abbrev pub Answered : {V : Type 0} → Type 0 → V → Result V Misfit → Type 0
Answered P answer (Ok v) = P × (v ≡ answer)
Answered P answer (Err e) = P → ⊥
