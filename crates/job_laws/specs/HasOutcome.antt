-- That something comes of a step: a value, or a fault. Source: this project's own.
use Rattle.std.specs.Prelude.{Result}
use Rattle.outcome.specs.Outcome.{Outcome}

-- a value or a fault may come
abbrev pub HasOutcome : {F A : Type 0} → Outcome F A → Type 0
HasOutcome {F} {A} may = (outcome : Result A F) × may outcome
