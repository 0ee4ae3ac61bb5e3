-- What stages are called, and the text of the fault of a stage over the bound. Source: this project's own texts, docs/COMMANDS.md.
use Rattle.std.specs.Prelude.{ℕ, ◌<◌, List, ◌++◌, codes}
use Rattle.std.specs.Fmt.{decimal}
use Rattle.poly_mixed.specs.Labels.{Labelling, word_at}
use Rattle.poly_mixed.specs.declared.stage.Stage.{Stage}
use Rattle.poly_mixed.specs.declared.stage.Stage.TheVariants as stages
use Rattle.job_words.specs.Operands.{Word}
use Rattle.job_words.specs.declared.stage_fault.StageFault.{StageFault}

-- what a stage is called, where these are the labels of the words
abbrev pub stage_text : Labelling → Stage → List ℕ
stage_text labels (stages.Cut cut) = codes "cut " ++ decimal cut
stage_text labels (stages.WordProduct word term bit) = codes "word " ++ ((word_at labels.words word).0 ++ (codes " term " ++ (decimal term ++ (codes " bit " ++ decimal bit))))
stage_text labels (stages.WordSum word term) = codes "word " ++ ((word_at labels.words word).0 ++ (codes " sum " ++ decimal term))
stage_text labels (stages.SpecProduct term factor) = codes "specification term " ++ (decimal term ++ (codes " factor " ++ decimal factor))
stage_text labels (stages.SpecSum term) = codes "specification sum " ++ decimal term
stage_text labels (stages.InstanceProduct instance term factor) = codes "instance " ++ (decimal instance ++ (codes " term " ++ (decimal term ++ (codes " factor " ++ decimal factor))))
stage_text labels (stages.InstanceSum instance term) = codes "instance " ++ (decimal instance ++ (codes " sum " ++ decimal term))

-- what a stage of the block of this model is called, where these are the labels of the block's words
abbrev pub block_stage_text : Word → Labelling → Stage → List ℕ
block_stage_text model labels stage = codes "block " ++ (model ++ (codes " " ++ stage_text labels stage))

-- a stage of a word is one of so many words
abbrev pub HasItsWord : ℕ → Stage → Type 0
HasItsWord count (stages.Cut cut) = Unit {0}
HasItsWord count (stages.WordProduct word term bit) = word < count
HasItsWord count (stages.WordSum word term) = word < count
HasItsWord count (stages.SpecProduct term factor) = Unit {0}
HasItsWord count (stages.SpecSum term) = Unit {0}
HasItsWord count (stages.InstanceProduct instance term factor) = Unit {0}
HasItsWord count (stages.InstanceSum instance term) = Unit {0}

-- the number and the text of the fault
abbrev pub stage_fault_text : StageFault → List ℕ
stage_fault_text fault = codes "03: " ++ (fault.stage ++ (codes " has " ++ (decimal fault.terms ++ (codes " terms, bound " ++ decimal fault.bound))))
