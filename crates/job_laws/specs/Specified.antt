-- That files have specifications or faults. Source: this project's own, docs/COMMANDS.md.
use Rattle.std.specs.Prelude.{ℕ, Option}
use Rattle.gf_field.specs.Ring.{IsRing}
use Rattle.poly_mixed.specs.Labels.{Labelling}
use Rattle.job_io.specs.Shelf.{Files}
use Rattle.job_words.specs.Operands.{Word}
use Rattle.job_input.specs.SpecificationIn.{SpecificationIn}
use Rattle.job_laws.specs.HasOutcome.{HasOutcome}

-- over a ring each file has a specification or a fault
abbrev pub HaveSpecifications : Type 0
HaveSpecifications = (held : Option Files) (labels : Labelling) (k : ℕ) (product : ℕ → ℕ → ℕ) (file : Word) → IsRing k product → HasOutcome (SpecificationIn held labels k product file)
