-- What is left of a text that is being read. Source: this project's own.
use Rattle.std.specs.Prelude.{ℕ, List, map, Option, None, Some, Result}
use Rattle.outcome.specs.Outcome.{Outcome}
use Rattle.outcome.specs.Outcome as outcomes
use Rattle.net_signature.specs.declared.fault.SigFault.{SigFault}
use Rattle.net_signature.specs.declared.fault.SigFault.TheVariants.{OutOfMemory}
use Rattle.net_signature.specs.Lines.{Line, lines_from, end_from}
use Rattle.net_signature.specs.declared.lines.Lines.{Lines}
use Rattle.net_signature.specs.declared.lines.Statement.{Statement}

-- the lines with tokens that are left
abbrev pub left : Lines → List Line
left l = lines_from l.next l.rest.now

-- the number after that of the last line
abbrev pub end_of : Lines → ℕ
end_of l = end_from l.next l.rest.now

-- a line that was read
abbrev pub line_of : Statement → Line
line_of s = record { number = s.number; tokens = map (λ token. token.now) s.tokens.items }

-- the refusal of a text; out of memory is none
abbrev pub refusal : SigFault → Option SigFault
refusal OutOfMemory = None
refusal fault = Some fault

-- the value, as view shows it, or the refusal is one that may come
abbrev pub Fits : {X A : Type 0} → (X → A) → Result X SigFault → Outcome SigFault A → Type 0
Fits view result outcome = outcomes.Fits refusal view result outcome
