-- Files have specifications and tables, or faults.
use Rattle.std.proofs.Common.{ℕ, List, Option, Result, Ok, Err}
use Rattle.outcome.specs.Outcome.{Within}
use Rattle.outcome.proofs.SomeLemmas.{some_bind, some_within}
use Rattle.job_io.specs.Shelf.{Files}
use Rattle.gf_field.specs.Ring.{IsRing}
use Rattle.lift_table.specs.TableText.{TableOutcome}
use Rattle.lift_table.specs.declared.fault.TableFault.{TableFault}
use Rattle.lift_table.specs.declared.fault.TableFault.TheVariants as lines
use Rattle.lift_table.proofs.ExistsLemmas.{some_table}
use Rattle.poly_mixed.specs.Labels.{Labelling}
use Rattle.spec_expand.specs.Specification.{SpecTerms}
use Rattle.spec_text.specs.Fault.{ComesOfText}
use Rattle.spec_text.specs.declared.fault.SpecFault.{SpecFault}
use Rattle.spec_text.specs.declared.fault.SpecFault.TheVariants as text
use Rattle.spec_text.proofs.ExistsLemmas.{some_outcome}
use Rattle.job_words.specs.Operands.{Word}
use Rattle.job_words.specs.declared.fault.Fault.TheVariants.{File, Specification, Table}
use Rattle.job_words.specs.declared.specification_fault.SpecificationFault.TheVariants as specification
use Rattle.job_words.specs.declared.table_text_fault.TableTextFault.TheVariants as table
use Rattle.job_input.specs.File.{Read}
use Rattle.job_input.specs.SpecificationIn.{SpecificationOf}
use Rattle.job_input.specs.TableIn.{TableIn, TableOf}
use Rattle.reader_laws.proofs.NetlistExists.{some_read}
use Rattle.job_laws.specs.HasOutcome.{HasOutcome}
use Rattle.job_laws.specs.Specified.{HaveSpecifications}

-- ---- specifications

module _ (labels : Labelling) (k : ℕ) (product : ℕ → ℕ → ℕ) (bytes : List ℕ) where
  as_specification : (result : Result SpecTerms SpecFault) → ComesOfText labels k product bytes result → HasOutcome (SpecificationOf labels k product bytes)
  as_specification (Ok terms) is = (Ok terms, is.0)
  as_specification (Err (text.Syntax place)) is = (Err (specification.Syntax place), is.0)
  as_specification (Err (text.UnknownWord place)) is = (Err (specification.UnknownWord place), is.0)
  as_specification (Err (text.BadNumber place)) is = (Err (specification.BadNumber place), is.0)
  as_specification (Err text.OutOfMemory) is = absurd is.1

  some_specification_of : IsRing k product → HasOutcome (SpecificationOf labels k product bytes)
  some_specification_of ring = let some = some_outcome labels k product ring bytes in as_specification some.0 some.1

pub some_specification : HaveSpecifications
some_specification held labels k product file ring =
    some_bind (Within File (Read held file)) (λ bytes. Within Specification (SpecificationOf labels k product bytes)) (some_within File (Read held file) (some_read held file))
    (λ bytes read. some_within Specification (SpecificationOf labels k product bytes) (some_specification_of labels k product bytes ring))

-- ---- tables

module _ (k n : ℕ) (bytes : List ℕ) where
  as_table : (result : Result (List ℕ) TableFault) → TableOutcome k n bytes result → HasOutcome (TableOf k n bytes)
  as_table (Ok values) is = (Ok values, is)
  as_table (Err (lines.Syntax line)) is = (Err (table.Syntax line), is)
  as_table (Err (lines.TooLarge line)) is = (Err (table.TooLarge line), is)
  as_table (Err lines.OutOfMemory) is = absurd is

  some_table_of : HasOutcome (TableOf k n bytes)
  some_table_of = let some = some_table k n bytes in as_table some.0 some.1

pub some_table_in : (held : Option Files) (k n : ℕ) (file : Word) → HasOutcome (TableIn held k n file)
some_table_in held k n file =
    some_bind (Within File (Read held file)) (λ bytes. Within Table (TableOf k n bytes)) (some_within File (Read held file) (some_read held file)) (λ bytes read. some_within Table (TableOf k n bytes) (some_table_of k n bytes))
