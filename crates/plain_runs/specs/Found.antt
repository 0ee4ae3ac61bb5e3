-- What a search finds that may run out of memory. Source: this project's own.
use Rattle.std.specs.Prelude.{Result, Option, IfOk, IfSome}

-- where it ends and has found a value, the value has the property
abbrev pub IfFound : {A E : Type 0} → Result (Option A) E → (A → Type 0) → Type 0
IfFound result P = IfOk result (λ found. IfSome found P)
