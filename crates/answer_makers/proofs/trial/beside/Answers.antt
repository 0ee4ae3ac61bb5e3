use Rattle.std.proofs.Common.{◌∙◌, ap, subst, ℕ, List, ◌++◌, Ok, codes, length}
use Rattle.std.specs.Prelude.{take}
use Rattle.outcome.specs.Outcome.{Exactly, Within}
use Rattle.poly_mixed.specs.Labels.{Labelling}
use Rattle.spec_compare.specs.Verdict.{comparison_of}
use Rattle.spec_compare.specs.declared.verdict.Verdict.{Verdict}
use Rattle.circuit_model.specs.Differing.{Difference}
use Rattle.job_words.specs.declared.fault.Fault.TheVariants as faults
use Rattle.job_words.proofs.StepLemmas.{stops}
use Rattle.job_input.specs.Setting.{setting_value}
use Rattle.job_input.specs.SettingValue.{SettingValue}
use Rattle.make_trial.specs.Trial.{trial_index, trial_place}
use Rattle.answer_core.specs.DifferingLines.{differing_lines}
use Rattle.answer_core.specs.Reply.{Reply, reply_of}
use Rattle.answer_core.specs.Judged.{JudgedOf}
use Rattle.answer_makers.specs.Trial.{ToldApart, trial_head, trial_reply}
use Rattle.answer_makers.proofs.TrialLemmas.{told_stops}
use Rattle.answer_makers.proofs.trial.beside.Goals as goal

pub returns-in-Err : goal.returns-in-Err
returns-in-Err g c =
    let setting : SettingValue = setting_value (g.F.Ring.degree c.args.field.now) (g.F.Ring.product c.args.field.now) c.args.setting.now in
    let words = c.args.words.now in
    let reply : Difference → Reply = trial_reply setting c.args.circuit.now words.number c.args.counted.now.terms in
    let view : Difference → Difference = λ found. found in
    stops view reply_of c.in-Err.stop (Within faults.Stage (ToldApart setting c.args.circuit.now c.args.spec.now words.terms)) (λ found. Exactly (reply found)) ⊥ ⊥ ⊥ ⊥ (λ m. m) (λ f. f)
    (told_stops setting c.args.circuit.now c.args.spec.now words.terms (comparison_of (length c.args.labels.now.words)) c.in-Err.stop c.in-Err.ensures)

pub returns-in_ok-add_difference-in-Ok-Differ : goal.returns-in_ok-add_difference-in-Ok-Differ
returns-in_ok-add_difference-in-Ok-Differ g c =
    let degree = g.F.Ring.degree c.args.field.now in
    let setting : SettingValue = setting_value degree (g.F.Ring.product c.args.field.now) c.args.setting.now in
    let words = c.args.words.now in
    let n = length c.args.labels.now.words in
    let found : Difference = record { input = take n c.in-Ok-Differ.input; left = c.in-Ok-Differ.left; right = c.in-Ok-Differ.right } in
    let P : Verdict → Type 0 = λ v. JudgedOf setting c.args.circuit.now c.args.spec.now words.terms (Ok (comparison_of n v)) in
    let told = subst P c.in-Ok-Differ.field-0-is c.in-Ok-Differ.ensures in
    let head = trial_head setting.signature.modulus (length c.args.circuit.now.net.gates) (trial_place degree words.number) (trial_index degree words.number) c.args.counted.now.terms in
    let lines : Labelling → List ℕ = λ l. differing_lines l (codes "netlist") (codes "product") found in
    let reply : List ℕ → Reply = λ t. record { status = 0; text = t } in (
      found,
      (told.0, told.1),
      ap reply (c.in_ok-add_difference-in-Ok-Differ.ensures ∙ ap (λ (t : List ℕ). t ++ lines c.args.labels.now) c.in_ok-text-in-Ok-Differ.ensures ∙ ap (λ (l : Labelling). head ++ lines l) c.requires.labels),
    )
