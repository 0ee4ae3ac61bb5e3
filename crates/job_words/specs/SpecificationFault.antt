-- The texts of faults of specifications. Source: this project's own texts, docs/COMMANDS.md.
use Rattle.std.specs.Prelude.{ℕ, List, ◌++◌, codes}
use Rattle.std.specs.Fmt.{decimal}
use Rattle.job_words.specs.declared.specification_fault.SpecificationFault.{SpecificationFault}
use Rattle.job_words.specs.declared.specification_fault.SpecificationFault.TheVariants as specification

-- the number and the text of a specification's fault
abbrev pub specification_text : SpecificationFault → List ℕ
specification_text (specification.Syntax place) = codes "40: syntax at byte " ++ decimal place
specification_text (specification.UnknownWord place) = codes "41: unknown word at byte " ++ decimal place
specification_text (specification.BadNumber place) = codes "42: number at byte " ++ decimal place
