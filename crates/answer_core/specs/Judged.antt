-- A circuit's output beside a specification of it. Source: this project's own.
use Rattle.std.specs.Prelude.{◌≡◌, ℕ, List, Option, ◌↔◌}
use Rattle.outcome.specs.Outcome.{Outcome}
use Rattle.net_words.specs.Binding.{BoundNet}
use Rattle.circuit_model.specs.Circuit.{Circuit, IsInput}
use Rattle.circuit_model.specs.Differing.{Difference, IsComparison}
use Rattle.circuit_model.specs.Out.{IsOut}
use Rattle.spec_expand.specs.SpecListing.{spec_listing}
use Rattle.spec_expand.specs.SpecValue.{spec_at}
use Rattle.spec_expand.specs.Specification.{SpecTerms}
use Rattle.job_words.specs.declared.stage_fault.StageFault.{StageFault}
use Rattle.job_words.specs.StageFault.{stage_text}
use Rattle.job_input.specs.Labelling.{labels_of}
use Rattle.job_input.specs.SettingValue.{SettingValue}
use Rattle.answer_core.specs.Staged.{Staged}
use Rattle.answer_core.specs.Abstraction.{taken_circuit}

-- at an input the specification has this value
pub record IsSpecified (setting : SettingValue) (circuit : Circuit) (spec : SpecTerms) (xs : List ℕ) (e : ℕ) : Type 0 where
  pub input : IsInput circuit xs
  pub value : spec_at setting.product xs spec ≡ e

-- this is the comparison of the output with the specification
abbrev pub IsJudged : SettingValue → BoundNet → SpecTerms → Option Difference → Type 0
IsJudged setting circuit spec = IsComparison (taken_circuit setting circuit) (IsOut (taken_circuit setting circuit)) (IsSpecified setting (taken_circuit setting circuit) spec)

-- the comparison with the specification, where no stage of the specification has more than `bound` terms
abbrev pub JudgedOf : SettingValue → BoundNet → SpecTerms → ℕ → Outcome StageFault (Option Difference)
JudgedOf setting circuit spec bound = Staged setting.k setting.product (spec_listing (taken_circuit setting circuit) spec) (stage_text (labels_of setting.k setting.signature.words)) bound (IsJudged setting circuit spec)

-- at each input the output word's element is the specification's value
abbrev pub Computes : SettingValue → Circuit → SpecTerms → Type 0
Computes setting job spec = (xs : List ℕ) (e : ℕ) → IsOut job xs e ↔ IsSpecified setting job spec xs e
