-- The command `compose`: the output word's polynomial in the input words, from the polynomials of blocks. Source: Pruss, Kalla, Enescu,
-- DAC 2014; the refusals, the stages and the bound on their terms are this project's own.
use Rattle.std.specs.Prelude.{◌≡◌, ℕ, ◌-◌, List, [], ◌∷◌, ◌++◌, Option, None, Some, Ok, Err, slice_get, if◌then◌else◌}
use Rattle.std.specs.Option.{option_map_or}
use Rattle.std.specs.Str.{bytes_eq}
use Rattle.outcome.specs.Outcome.{Outcome, ◌>>=◌, Exactly, Within}
use Rattle.job_io.specs.Shelf.{Files}
use Rattle.net_blif.specs.Design.{ModelValue}
use Rattle.net_blif.specs.Statement.{Token}
use Rattle.net_blif.specs.Top.{instances_of, model_in}
use Rattle.net_blif.specs.declared.item.Item.{Item}
use Rattle.net_signature.specs.Body.{BlockValue}
use Rattle.net_signature.specs.Signature.{SignatureValue}
use Rattle.net_words.specs.declared.word.WordText.{WordText}
use Rattle.poly_mixed.specs.Polynomial.{Terms}
use Rattle.poly_mixed.specs.declared.stage.Stage.{Stage}
use Rattle.compose_model.specs.Hierarchy.{Hierarchy}
use Rattle.block_compose.specs.Composed.{ComposesIn}
use Rattle.block_compose.specs.declared.fault.ComposeFault.{ComposeFault}
use Rattle.block_compose.specs.declared.fault.ComposeFault.TheVariants as composing
use Rattle.job_words.specs.StageFault.{block_stage_text, stage_text}
use Rattle.job_words.specs.declared.composition_fault.CompositionFault.TheVariants as composition
use Rattle.job_words.specs.declared.fault.Fault.{Fault}
use Rattle.job_words.specs.declared.fault.Fault.TheVariants as faults
use Rattle.job_words.specs.declared.signature_fault.SignatureFault.{SignatureFault}
use Rattle.job_words.specs.Operands.{Word}
use Rattle.job_words.specs.declared.words.ComposeWords.{ComposeWords}
use Rattle.job_input.specs.HierarchyIn.{HierarchyIn}
use Rattle.job_input.specs.Labelling.{labels_of}
use Rattle.job_input.specs.NetlistOf.{word_name}
use Rattle.job_input.specs.SettingOf.{BasesOf}
use Rattle.job_input.specs.SettingValue.{SettingValue}
use Rattle.answer_core.specs.Reply.{Reply, prints}

-- ---- bases

-- these lists of bases, and behind them one for the words of each block
abbrev pub WithBlocks : ℕ → (ℕ → ℕ → ℕ) → List (List (List ℕ)) → List BlockValue → Outcome SignatureFault (List (List (List ℕ)))
WithBlocks k product lists [] = Exactly lists
WithBlocks k product lists (block ∷ blocks) = do
  bases ← BasesOf k product block.words
  WithBlocks k product (lists ++ bases ∷ []) blocks

-- so it is where a fault is one of the whole signature
abbrev pub WithBlocksOf : ℕ → (ℕ → ℕ → ℕ) → List (List (List ℕ)) → List BlockValue → Outcome Fault (List (List (List ℕ)))
WithBlocksOf k product lists blocks = Within faults.Signature (WithBlocks k product lists blocks)

-- the bases of the words of the top, and then those of the words of each block: there are such, since the signature was taken
abbrev pub ListsOf : ℕ → (ℕ → ℕ → ℕ) → SignatureValue → Outcome Fault (List (List (List ℕ)))
ListsOf k product signature = do
  top ← Within faults.Signature (BasesOf k product signature.words)
  WithBlocksOf k product (top ∷ []) signature.blocks

-- the models with the words and the blocks of a signature, and with these bases
abbrev pub hierarchy_with : SettingValue → List ModelValue → List (List (List ℕ)) → Hierarchy
hierarchy_with setting design lists = record { design = design; words = setting.signature.words; blocks = setting.signature.blocks; bases = lists }

-- ---- refusals

-- the words of the block of this model; none where no block is of it
abbrev pub words_in : List BlockValue → Token → List WordText
words_in [] model = []
words_in (block ∷ blocks) model = if bytes_eq model block.model then block.words else words_in blocks model

-- the name of the model of instance n, from 1
abbrev pub instance_model : List ModelValue → ℕ → Token
instance_model design n = option_map_or (λ (item : Item). model_in item) (slice_get (instances_of design) (n - 1)) []

-- what a stage of the block of this model is called, or, where no model is given, one of an instance
abbrev pub stage_called : SettingValue → Option Token → Stage → List ℕ
stage_called setting None stage = stage_text (labels_of setting.k setting.signature.words) stage
stage_called setting (Some model) stage = block_stage_text model (labels_of setting.k (words_in setting.signature.blocks model)) stage

-- the fault of a refused composition, with the name of a word that nothing fits; out of memory is none
abbrev pub compose_fault : SettingValue → List ModelValue → ℕ → ComposeFault → Option Fault
compose_fault setting design bound composing.FedInTop = Some (faults.Composition composition.FedInTop)
compose_fault setting design bound (composing.GateInTop line) = Some (faults.Composition (composition.GateInTop line))
compose_fault setting design bound (composing.NoBlock model) = Some (faults.Composition (composition.NoBlock model))
compose_fault setting design bound (composing.BlockNet model) = Some (faults.Composition (composition.BlockNet model))
compose_fault setting design bound (composing.BlockLatch model) = Some (faults.Composition (composition.BlockLatch model))
compose_fault setting design bound (composing.BlockBind model) = Some (faults.Composition (composition.BlockBind model))
compose_fault setting design bound (composing.NotWords instance word) = Some (faults.Composition (composition.NotWords instance (word_name (words_in setting.signature.blocks (instance_model design instance)) word)))
compose_fault setting design bound composing.OutputNotWords = Some (faults.Composition composition.OutputNotWords)
compose_fault setting design bound (composing.InstanceLoop instance) = Some (faults.Composition (composition.InstanceLoop instance))
compose_fault setting design bound (composing.TooManyTerms block stage terms) = Some (faults.Stage (record { stage = stage_called setting block stage; terms = terms; bound = bound }))
compose_fault setting design bound composing.OutOfMemory = None

-- ---- the answer

-- the polynomial in words of a top with these bases, or the first refusal or stage of more than `bound` terms
abbrev pub ComposeOf : SettingValue → List ModelValue → List (List (List ℕ)) → ℕ → Outcome Fault Terms
ComposeOf setting design lists bound (Ok ts) = ComposesIn setting.k setting.product setting.signature (hierarchy_with setting design lists) bound (Ok ts)
ComposeOf setting design lists bound (Err fault) =
    (found : ComposeFault) × ComposesIn setting.k setting.product setting.signature (hierarchy_with setting design lists) bound (Err found) × (compose_fault setting design bound found ≡ Some fault)

-- its reply
abbrev pub ComposeReply : SettingValue → List ModelValue → List (List (List ℕ)) → ℕ → Outcome Fault Reply
ComposeReply setting design lists bound = do
  ts ← ComposeOf setting design lists bound
  Exactly (prints setting ts)

-- its reply over the models of a netlist
abbrev pub ComposeOver : SettingValue → List ModelValue → ℕ → Outcome Fault Reply
ComposeOver setting design bound = do
  lists ← ListsOf setting.k setting.product setting.signature
  ComposeReply setting design lists bound

-- its answer, after its signature was taken: its input is a hierarchical netlist, to whose first model the words bind
abbrev pub ComposeAnswer : Option Files → SettingValue → Word → ℕ → Outcome Fault Reply
ComposeAnswer held setting net terms = do
  design ← HierarchyIn held setting.signature net
  ComposeOver setting design terms

-- so it is with the words of the command
abbrev pub ComposeAnswerTo : SettingValue → ComposeWords → Option Files → Outcome Fault Reply
ComposeAnswerTo setting words held = ComposeAnswer held setting words.net.now words.terms
