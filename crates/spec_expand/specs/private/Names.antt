-- What the stages of a specification are called. Source: this project's own.
use Rattle.poly_mixed.specs.declared.stage.ReduceFault.{ReduceFault}
use Rattle.poly_mixed.specs.declared.stage.ReduceFault.TheVariants.{TooManyTerms, OutOfMemory}
use Rattle.poly_mixed.specs.declared.stage.Stage.{Stage}
use Rattle.poly_mixed.specs.declared.stage.Stage.TheVariants.{SpecProduct, SpecSum}
use Rattle.term_expand.specs.declared.stage.SumFault.{SumFault}
use Rattle.term_expand.specs.declared.stage.SumFault.TheVariants as faults
use Rattle.term_expand.specs.declared.stage.SumStage.{SumStage}
use Rattle.term_expand.specs.declared.stage.SumStage.TheVariants.{TermProduct, TermSum}

-- the name of a stage of the sum that a specification is
abbrev pub spec_stage : SumStage → Stage
spec_stage (TermProduct s j) = SpecProduct s j
spec_stage (TermSum s) = SpecSum s

-- the refusal of the sum as that of the specification
abbrev pub spec_fault : SumFault → ReduceFault
spec_fault (faults.TooManyTerms stage n) = TooManyTerms (spec_stage stage) n
spec_fault faults.OutOfMemory = OutOfMemory
