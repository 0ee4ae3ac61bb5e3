-- The texts of faults of compositions. Source: this project's own texts, docs/COMMANDS.md.
use Rattle.std.specs.Prelude.{ℕ, List, ◌++◌, codes}
use Rattle.std.specs.Fmt.{decimal}
use Rattle.job_words.specs.declared.composition_fault.CompositionFault.{CompositionFault}
use Rattle.job_words.specs.declared.composition_fault.CompositionFault.TheVariants as composition

-- the number and the text of a composition's fault
abbrev pub composition_text : CompositionFault → List ℕ
composition_text composition.FedInTop = codes "44: the signature has a feed"
composition_text (composition.GateInTop line) = codes "44: gate or latch at line " ++ (decimal line ++ codes " of the top")
composition_text (composition.NoBlock model) = codes "44: no block " ++ model
composition_text (composition.BlockNet model) = codes "44: block " ++ (model ++ codes " is no net")
composition_text (composition.BlockLatch model) = codes "44: block " ++ (model ++ codes " has a latch")
composition_text (composition.BlockBind model) = codes "44: block " ++ (model ++ codes " does not bind")
composition_text (composition.NotWords instance word) = codes "44: instance " ++ (decimal instance ++ (codes " word " ++ word))
composition_text composition.OutputNotWords = codes "44: output word"
composition_text (composition.InstanceLoop instance) = codes "44: loop through instance " ++ decimal instance
