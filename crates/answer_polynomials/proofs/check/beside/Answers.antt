use Rattle.std.proofs.Common.{subst, ℕ, List, length}
use Rattle.outcome.specs.Outcome.{Exactly, Within}
use Rattle.poly_mixed.specs.Labels.{Labelling}
use Rattle.spec_compare.specs.Verdict.{comparison_of}
use Rattle.job_words.specs.declared.fault.Fault.TheVariants as faults
use Rattle.job_words.specs.Stop.{GivesBy}
use Rattle.job_words.proofs.StepLemmas.{after, stops}
use Rattle.job_input.specs.Labelling.{labels_of}
use Rattle.job_input.specs.Setting.{setting_value}
use Rattle.job_input.specs.SettingValue.{SettingValue}
use Rattle.answer_core.specs.Reply.{reply_of}
use Rattle.answer_core.specs.Judged.{JudgedOf}
use Rattle.answer_polynomials.specs.Check.{check_reply}
use Rattle.answer_polynomials.proofs.check.beside.Goals as goal

pub returns-in-Ok : goal.returns-in-Ok
returns-in-Ok g c =
    let setting : SettingValue = setting_value (g.F.Ring.degree c.args.field.now) (g.F.Ring.product c.args.field.now) c.args.setting.now in
    let found = comparison_of (length c.args.labels.now.words) c.in-Ok.verdict in
    let line = c.args.printed.now.line.items in
    let P : Labelling → Type 0 = λ l. GivesBy reply_of c.output.result (Exactly (check_reply l line found)) ⊥ ⊥ in
    let Q : List ℕ → Type 0 = λ t. GivesBy reply_of c.output.result (Exactly (check_reply c.args.labels.now t found)) ⊥ ⊥ in
    after reply_of c.output.result (Within faults.Stage (JudgedOf setting c.args.circuit.now c.args.spec.now c.args.bound)) (λ found. Exactly (check_reply (labels_of setting.k setting.signature.words) line found)) found
    ⊥ ⊥ ⊥ ⊥ c.in-Ok.ensures (λ m. m) (λ f. f) (subst P c.requires.labels (subst Q c.deref.ensures.value c.output.ensures))

pub returns-in-Err : goal.returns-in-Err
returns-in-Err g c =
    let setting : SettingValue = setting_value (g.F.Ring.degree c.args.field.now) (g.F.Ring.product c.args.field.now) c.args.setting.now in
    stops (comparison_of (length c.args.labels.now.words)) reply_of c.in-Err.stop (Within faults.Stage (JudgedOf setting c.args.circuit.now c.args.spec.now c.args.bound)) (λ found. Exactly (check_reply (labels_of setting.k setting.signature.words) c.args.printed.now.line.items found))
    ⊥ ⊥ ⊥ ⊥ (λ m. m) (λ f. f) c.in-Err.ensures
