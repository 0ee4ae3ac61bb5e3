-- Some reply or some fault comes of `check`, over the setting of a text.
use Rattle.std.proofs.Common.{◌≡◌, ◌∙◌, refl, sym, ℕ, Bool, List, length, Option, Some, Ok}
use Rattle.outcome.specs.Outcome.{Exactly, Within}
use Rattle.outcome.proofs.SomeLemmas.{some_bind, some_exactly, some_within}
use Rattle.job_io.specs.Shelf.{Files}
use Rattle.net_words.specs.Binding.{BoundNet}
use Rattle.poly_mixed.specs.Labels.{Labelling}
use Rattle.circuit_model.specs.Circuit.{Circuit}
use Rattle.circuit_model.specs.Differing.{Difference}
use Rattle.circuit_model.specs.Out.{IsOut}
use Rattle.circuit_model.specs.WellFormed.{IsWellFormed}
use Rattle.circuit_model.proofs.OutLemmas.{one_out, some_out}
use Rattle.spec_expand.specs.SpecListing.{spec_listing}
use Rattle.spec_expand.specs.SpecValue.{spec_at}
use Rattle.spec_expand.specs.Specification.{SpecTerms}
use Rattle.job_words.specs.Operands.{Word}
use Rattle.job_words.specs.StageFault.{stage_text}
use Rattle.job_words.specs.declared.fault.Fault.TheVariants as faults
use Rattle.job_input.specs.Labelling.{labels_of}
use Rattle.job_input.specs.NetlistOf.{NetlistIn}
use Rattle.job_input.specs.SettingOf.{SettingOf}
use Rattle.job_input.specs.SettingValue.{SettingValue}
use Rattle.job_input.specs.SpecificationIn.{SpecificationIn}
use Rattle.job_input.proofs.SettingSoundLemmas.{setting_sound}
use Rattle.answer_core.specs.Abstraction.{taken_circuit, AbstractOf, IsInWords, abstract_stages}
use Rattle.answer_core.specs.Judged.{IsJudged, IsSpecified, JudgedOf}
use Rattle.answer_core.specs.Reply.{polynomial_line}
use Rattle.answer_core.specs.Simpler.{SimplerUnrolledIn}
use Rattle.answer_core.specs.Staged.{either_text}
use Rattle.answer_polynomials.specs.Check.{check_reply, CheckAnswer, CheckBeside, CheckOver, CheckReply, CheckUnrolled, WordsLine}
use Rattle.answer_polynomials.proofs.SomeComparisonLemmas.{compared}
use Rattle.reader_laws.proofs.NetlistExists.{some_netlist_in}
use Rattle.job_laws.specs.HasOutcome.{HasOutcome}
use Rattle.job_laws.proofs.FileExists.{some_specification}
use Rattle.exist_laws.proofs.SpecDecided.{spec_decided}
use Rattle.answer_laws.proofs.SomeCircuits.{abstract_decided, some_in_words, some_simpler_unrolled, taken_long, taken_well}
use Rattle.answer_laws.proofs.SomeStaged.{some_staged}

-- ---- over a circuit

pub some_judged : (setting : SettingValue) (circuit : BoundNet) (spec : SpecTerms) → IsWellFormed (taken_circuit setting circuit) → (found : Option Difference) × IsJudged setting circuit spec found
some_judged setting circuit spec well =
    let whole : Circuit = taken_circuit setting circuit in
    compared whole (IsOut whole) (IsSpecified setting whole spec) well (λ xs e o p q. one_out whole xs e o well p q) (λ xs x y first second. sym first.value ∙ second.value)
    (λ xs input. let found = some_out whole xs well input in (found.0, found.1)) (λ xs input. (spec_at setting.product xs spec, record { input = input; value = refl }))

pub some_abstracted : (setting : SettingValue) (circuit : BoundNet) (bound : ℕ) → IsWellFormed (taken_circuit setting circuit) → length setting.bases ≡ length circuit.binding.words → HasOutcome (AbstractOf setting circuit bound)
some_abstracted setting circuit bound well long =
    let found = some_in_words setting circuit well in
    some_staged setting.k setting.product (abstract_stages setting circuit) (either_text (labels_of setting.k setting.signature.words)) bound (IsInWords setting circuit) found.0 found.1 (abstract_decided setting circuit bound well long)

module _ (setting : SettingValue) (circuit : BoundNet) (spec : SpecTerms) (bound : ℕ) (well : IsWellFormed (taken_circuit setting circuit)) (long : length setting.bases ≡ length circuit.binding.words) where
  abbrev whole : Circuit
  whole = taken_circuit setting circuit

  abbrev labels : Labelling
  labels = labels_of setting.k setting.signature.words

  some_compared : HasOutcome (JudgedOf setting circuit spec bound)
  some_compared =
      some_staged setting.k setting.product (spec_listing whole spec) (stage_text labels) bound (IsJudged setting circuit spec) (some_judged setting circuit spec well).0 (some_judged setting circuit spec well).1 (spec_decided whole well spec bound)

  some_line : HasOutcome (WordsLine setting circuit bound)
  some_line = some_bind (Within faults.Stage (AbstractOf setting circuit bound)) (λ ts. Exactly (polynomial_line setting ts)) (some_within faults.Stage (AbstractOf setting circuit bound) (some_abstracted setting circuit bound well long)) (λ ts may. some_exactly (polynomial_line setting ts))

  some_beside : (line : List ℕ) → HasOutcome (CheckBeside setting circuit spec bound line)
  some_beside line =
      some_bind (Within faults.Stage (JudgedOf setting circuit spec bound)) (λ found. Exactly (check_reply labels line found)) (some_within faults.Stage (JudgedOf setting circuit spec bound) some_compared) (λ found may. some_exactly (check_reply labels line found))

  pub some_check_reply : HasOutcome (CheckReply setting circuit spec bound)
  some_check_reply = some_bind (WordsLine setting circuit bound) (CheckBeside setting circuit spec bound) some_line (λ line may. some_beside line)

-- ---- the answer

module _ (held : Option Files) (bytes : List ℕ) (setting : SettingValue) (is_setting : SettingOf bytes (Ok setting)) (net file : Word) (bound cycles : ℕ) (simple : Bool) where
  some_check_unrolled : (netlist : BoundNet) → NetlistIn held setting.signature net (Ok netlist) → (spec : SpecTerms) → HasOutcome (CheckUnrolled setting net netlist spec bound cycles simple)
  some_check_unrolled netlist netlist_in spec =
      some_bind (SimplerUnrolledIn net netlist cycles simple) (λ circuit. CheckReply setting circuit spec bound) (some_simpler_unrolled held bytes setting is_setting net cycles netlist netlist_in simple)
      (λ circuit of. some_check_reply setting circuit spec bound (taken_well held bytes setting is_setting net cycles netlist netlist_in simple circuit of) (taken_long held bytes setting is_setting net cycles netlist netlist_in simple circuit of))

  pub some_check : HasOutcome (CheckAnswer held setting net file bound cycles simple)
  some_check =
      some_bind (NetlistIn held setting.signature net) (λ netlist. CheckOver held setting net netlist file bound cycles simple) (some_netlist_in held setting.signature net)
      (λ netlist netlist_in.
      some_bind (SpecificationIn held (labels_of setting.k setting.signature.words) setting.k setting.product file) (λ spec. CheckUnrolled setting net netlist spec bound cycles simple)
      (some_specification held (labels_of setting.k setting.signature.words) setting.k setting.product file (setting_sound bytes setting is_setting).ring)
      (λ spec may. some_check_unrolled netlist netlist_in spec))
