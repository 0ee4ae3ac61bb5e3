-- What may come of one line. Source: this project's own format, docs/FORMATS.md.
use Rattle.std.specs.Prelude.{◌≡◌, ℕ, Bool, false, List, [], ◌∷◌, codes, Result, Ok, Err}
use Rattle.std.specs.Str.{bytes_eq}
use Rattle.outcome.specs.Outcome.{Outcome, ◌>>=◌, Exactly, Returns}
use Rattle.net_signature.specs.Lines.{Token, Line}
use Rattle.net_signature.specs.declared.fault.SigFault.{SigFault}
use Rattle.net_signature.specs.declared.fault.SigFault.TheVariants.{Syntax, NameTwice, NoFedWord, FeedTwice, TwoOutputs, TooManyWords, NoOutput, OutOfMemory}

-- one of these values, or a syntax fault of the line with this number where there is none
abbrev pub OrSyntax : {A : Type 0} → ℕ → (A → Type 0) → Outcome SigFault A
OrSyntax number says (Ok value) = says value
OrSyntax {A} number says (Err (Syntax n)) = (n ≡ number) × ((value : A) → says value → ⊥)
OrSyntax number says (Err (NameTwice n)) = ⊥
OrSyntax number says (Err (NoFedWord n)) = ⊥
OrSyntax number says (Err (FeedTwice n)) = ⊥
OrSyntax number says (Err (TwoOutputs n)) = ⊥
OrSyntax number says (Err (TooManyWords n)) = ⊥
OrSyntax number says (Err (NoOutput block)) = ⊥
OrSyntax number says (Err OutOfMemory) = ⊥

-- the line says one of these values, or it is a syntax fault and says none
abbrev pub Says : {A : Type 0} → Line → (List Token → A → Type 0) → Outcome SigFault A
Says line says = OrSyntax line.number (says line.tokens)

-- the next line and those after it; where there is none, it is missed at the end
abbrev pub first_of : ℕ → List Line → Result (Line × List Line) SigFault
first_of end [] = Err (Syntax end)
first_of end (line ∷ lines) = Ok (line, lines)

-- a line of this kind comes next: its value, and the lines after it
abbrev pub Next : {A : Type 0} → ℕ → (List Token → A → Type 0) → List Line → Outcome SigFault (A × List Line)
Next end says lines = do
  first ← Returns (first_of end lines)
  value ← Says first.0 says
  Exactly (value, first.1)

-- whether the next line begins with `tower`
abbrev pub begins_tower : List Token → Bool
begins_tower [] = false
begins_tower (token ∷ tokens) = bytes_eq token (codes "tower")

abbrev pub tower_comes : List Line → Bool
tower_comes [] = false
tower_comes (line ∷ lines) = begins_tower line.tokens
