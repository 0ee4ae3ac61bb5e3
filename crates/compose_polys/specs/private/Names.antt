-- What the stages of an instance are called. Source: this project's own.
use Rattle.std.specs.Prelude.{ℕ}
use Rattle.poly_mixed.specs.declared.stage.ReduceFault.{ReduceFault}
use Rattle.poly_mixed.specs.declared.stage.ReduceFault.TheVariants.{TooManyTerms, OutOfMemory}
use Rattle.poly_mixed.specs.declared.stage.Stage.{Stage}
use Rattle.poly_mixed.specs.declared.stage.Stage.TheVariants.{InstanceProduct, InstanceSum}
use Rattle.term_expand.specs.declared.stage.SumFault.{SumFault}
use Rattle.term_expand.specs.declared.stage.SumFault.TheVariants as faults
use Rattle.term_expand.specs.declared.stage.SumStage.{SumStage}
use Rattle.term_expand.specs.declared.stage.SumStage.TheVariants.{TermProduct, TermSum}

-- the name of a stage of the sum that a block's polynomial is, at the feeds of instance i
abbrev pub instance_stage : ℕ → SumStage → Stage
instance_stage i (TermProduct s j) = InstanceProduct i s j
instance_stage i (TermSum s) = InstanceSum i s

-- the refusal of that sum as that of the instance
abbrev pub instance_fault : ℕ → SumFault → ReduceFault
instance_fault i (faults.TooManyTerms stage n) = TooManyTerms (instance_stage i stage) n
instance_fault i faults.OutOfMemory = OutOfMemory
