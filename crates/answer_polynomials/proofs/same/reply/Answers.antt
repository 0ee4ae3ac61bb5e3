use Rattle.std.proofs.Common.{subst, length}
use Rattle.outcome.specs.Outcome.{Exactly, Within}
use Rattle.poly_mixed.specs.Labels.{Labelling}
use Rattle.spec_compare.specs.Verdict.{comparison_of}
use Rattle.job_words.specs.declared.fault.Fault.TheVariants as faults
use Rattle.job_words.specs.Stop.{GivesBy}
use Rattle.job_words.proofs.StepLemmas.{after, stops}
use Rattle.job_input.specs.Labelling.{labels_of}
use Rattle.job_input.specs.Setting.{setting_value}
use Rattle.job_input.specs.SettingValue.{SettingValue}
use Rattle.answer_core.specs.Reply.{reply_of}
use Rattle.answer_polynomials.specs.Same.{SameOf, same_reply}
use Rattle.answer_polynomials.proofs.same.reply.Goals as goal

pub verdict-requires : goal.verdict-requires
verdict-requires g c = record { ready = c.requires.ready; first = c.requires.first; second = c.requires.second; labels = c.in_ok-labels.ensures }

pub returns-in-Ok : goal.returns-in-Ok
returns-in-Ok g c =
    let setting : SettingValue = setting_value (g.F.Ring.degree c.args.field.now) (g.F.Ring.product c.args.field.now) c.args.setting.now in
    let found = comparison_of (length c.in_ok-labels.labels.words) c.in-Ok.verdict in
    let P : Labelling → Type 0 = λ l. GivesBy reply_of c.output.result (Exactly (same_reply l found)) ⊥ ⊥ in
    after reply_of c.output.result (Within faults.Stage (SameOf setting c.args.circuit.now c.args.other.now c.args.bound)) (λ found. Exactly (same_reply (labels_of setting.k setting.signature.words) found)) found
    ⊥ ⊥ ⊥ ⊥ c.in-Ok.ensures (λ m. m) (λ f. f) (subst P c.in_ok-labels.ensures c.output.ensures)

pub returns : goal.returns
returns g c =
    let degree = g.F.Ring.degree c.args.field.now in
    let mul = g.F.Ring.product c.args.field.now in
    let setting : SettingValue = setting_value degree mul c.args.setting.now in
    stops (comparison_of (length c.in_ok-labels.labels.words)) reply_of c.in-Err.stop (Within faults.Stage (SameOf setting c.args.circuit.now c.args.other.now c.args.bound)) (λ found. Exactly (same_reply (labels_of setting.k setting.signature.words) found))
    ⊥ ⊥ ⊥ ⊥ (λ m. m) (λ f. f) c.in-Err.ensures
