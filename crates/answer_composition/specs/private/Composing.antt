-- What is known of a composition: for the clauses of private functions. Source: this project's own.
use Rattle.std.specs.Prelude.{◌≡◌, ℕ, ◌+◌, List, None, Some, length, slice_get}
use Rattle.lists.specs.Lists.{Has}
use Rattle.net_blif.specs.Statement.{Token}
use Rattle.net_signature.specs.Body.{BlockValue}
use Rattle.net_words.specs.declared.word.WordText.{WordText}
use Rattle.gf_basis.specs.declared.bases.Basis.{Basis}
use Rattle.poly_mixed.specs.declared.stage.Stage.{Stage}
use Rattle.block_compose.specs.Composed.{HasBases}
use Rattle.block_compose.specs.declared.fault.ComposeFault.{ComposeFault}
use Rattle.block_compose.specs.declared.fault.ComposeFault.TheVariants.{TooManyTerms}
use Rattle.job_words.specs.StageFault.{HasItsWord}
use Rattle.job_input.specs.Labelling.{word_labels}
use Rattle.answer_composition.specs.Compose.{words_in}

-- one list of bases for the words of the top, and one for those of each block
pub record AreListsOf (k : ℕ) (mul : ℕ → ℕ → ℕ) (words : List WordText) (blocks : List BlockValue) (bases : List (List Basis)) : Type 0 where
  pub top : HasBases k mul bases 0 words
  pub each : (number : ℕ) (block : BlockValue) → slice_get blocks number ≡ Some block → HasBases k mul bases (number + 1) block.words

-- the block of this model has the word of the stage
pub record IsStageIn (k : ℕ) (blocks : List BlockValue) (model : Token) (stage : Stage) : Type 0 where
  pub block : BlockValue
  pub has : Has blocks block
  pub words_are : words_in blocks model ≡ block.words
  pub named : HasItsWord (length (word_labels k block.words)) stage

-- the stage of a fault has its word: among those of the block that the fault names, or else among those of the top
abbrev pub HasNamedStage : ℕ → List WordText → List BlockValue → ComposeFault → Type 0
HasNamedStage k words blocks (TooManyTerms None stage terms) = HasItsWord (length (word_labels k words)) stage
HasNamedStage k words blocks (TooManyTerms (Some model) stage terms) = IsStageIn k blocks model stage
HasNamedStage k words blocks fault = Unit {0}
