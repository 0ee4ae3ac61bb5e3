-- What comes of the file of a specification. Source: this project's own, docs/FORMATS.md.
use Rattle.std.specs.Prelude.{ℕ, List, Option, Ok, Err}
use Rattle.outcome.specs.Outcome.{Outcome, ◌>>=◌, Within}
use Rattle.job_io.specs.Shelf.{Files}
use Rattle.poly_mixed.specs.Labels.{Labelling}
use Rattle.spec_text.specs.Fault.{SpecOutcome}
use Rattle.spec_expand.specs.Specification.{SpecTerms}
use Rattle.spec_text.specs.declared.fault.SpecFault.{SpecFault}
use Rattle.spec_text.specs.declared.fault.SpecFault.TheVariants as text
use Rattle.job_words.specs.declared.fault.Fault.{Fault}
use Rattle.job_words.specs.declared.fault.Fault.TheVariants.{File, Specification}
use Rattle.job_words.specs.declared.specification_fault.SpecificationFault.{SpecificationFault}
use Rattle.job_words.specs.declared.specification_fault.SpecificationFault.TheVariants as specification
use Rattle.job_words.specs.Operands.{Word}
use Rattle.job_input.specs.File.{Read}

-- the fault of the text that a fault of a specification is
abbrev pub text_fault_of : SpecificationFault → SpecFault
text_fault_of (specification.Syntax place) = text.Syntax place
text_fault_of (specification.UnknownWord place) = text.UnknownWord place
text_fault_of (specification.BadNumber place) = text.BadNumber place

-- the specification of a text over the words of these labels, or the fault of its first token that has one
abbrev pub SpecificationOf : Labelling → ℕ → (ℕ → ℕ → ℕ) → List ℕ → Outcome SpecificationFault SpecTerms
SpecificationOf labels k product bytes (Ok terms) = SpecOutcome labels k product bytes (Ok terms)
SpecificationOf labels k product bytes (Err fault) = SpecOutcome labels k product bytes (Err (text_fault_of fault))

-- the specification of a file: it is read, and its text taken
abbrev pub SpecificationIn : Option Files → Labelling → ℕ → (ℕ → ℕ → ℕ) → Word → Outcome Fault SpecTerms
SpecificationIn held labels k product file = do
  bytes ← Within File (Read held file)
  Within Specification (SpecificationOf labels k product bytes)
