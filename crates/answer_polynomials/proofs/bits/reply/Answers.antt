use Rattle.std.proofs.Common.{◌∙◌, ◌++◌, List, ℕ, ap, sym, subst, codes, length}
use Rattle.outcome.specs.Outcome.{Exactly, Within}
use Rattle.poly_mixed.specs.Labels.{Labelling}
use Rattle.poly_mixed.specs.Polynomial.{Terms}
use Rattle.poly_mixed.specs.Text.{text, HasNames, HasWordNames}
use Rattle.circuit_model.specs.OfBinding.{output_basis}
use Rattle.job_words.specs.declared.fault.Fault.TheVariants as faults
use Rattle.job_words.proofs.StepLemmas.{stops}
use Rattle.job_input.specs.Labelling.{labels_of}
use Rattle.job_input.specs.Setting.{setting_value}
use Rattle.job_input.specs.SettingValue.{SettingValue}
use Rattle.answer_core.specs.Reply.{reply_of, prints}
use Rattle.answer_core.specs.Abstraction.{bits_stages, IsLastCut, BitsOf}
use Rattle.answer_core.specs.StageStop.{IsStageStop}
use Rattle.answer_core.proofs.RefusalLemmas.{one_refused, cuts_named}
use Rattle.answer_polynomials.proofs.bits.reply.Goals as goal

pub stage_stop-requires : goal.stage_stop-requires
stage_stop-requires g c =
    let degree = g.F.Ring.degree c.args.field.now in
    let mul = g.F.Ring.product c.args.field.now in
    let setting : SettingValue = setting_value degree mul c.args.setting.now in
    cuts_named degree mul c.args.circuit.now (output_basis c.args.circuit.now.binding.words setting.bases) (length c.in_ok-labels.labels.words) c.args.bound c.in-Err.fault c.in-Err.ensures.fault

pub returns-in-Err : goal.returns-in-Err
returns-in-Err g c =
    let degree = g.F.Ring.degree c.args.field.now in
    let mul = g.F.Ring.product c.args.field.now in
    let setting : SettingValue = setting_value degree mul c.args.setting.now in
    let circuit = c.args.circuit.now in
    let S : Labelling → Type 0 = λ l. IsStageStop l c.in-Err.fault c.args.bound c.stage_stop.result in
    let view : Terms → Terms = λ ts. ts in
    stops view reply_of c.stage_stop.result (Within faults.Stage (BitsOf setting circuit c.args.bound)) (λ ts. Exactly (prints setting ts)) ⊥ ⊥ ⊥ ⊥ (λ m. m) (λ f. f)
    (one_refused degree mul view c.args.bound (IsLastCut setting circuit) (bits_stages setting circuit) (labels_of degree c.args.setting.now.signature.words) c.in-Err.fault c.stage_stop.result c.in-Err.ensures.fault
    (subst S c.in_ok-labels.ensures c.stage_stop.ensures))

pub polynomial_line-requires : goal.polynomial_line-requires
polynomial_line-requires g c =
    let P : Labelling → Type 0 = λ l. HasNames l c.in-Ok.poly.terms in
    let Q : Labelling → Type 0 = λ l. HasWordNames l c.in-Ok.poly.terms in
    record { named = subst P (sym c.in_ok-labels.ensures) c.in-Ok.ensures.named; words_named = subst Q (sym c.in_ok-labels.ensures) c.in-Ok.ensures.words_named }

pub returns : goal.returns
returns g c =
    let ts = c.in-Ok.poly.terms in
    (ts, (c.in-Ok.ensures.last, c.in-Ok.ensures.within), ap (λ (t : List ℕ). record { status = 0; text = t }) (c.in_ok-text.ensures ∙ ap (λ (l : Labelling). l.output ++ (codes " = " ++ (text l ts ++ codes "\n"))) c.in_ok-labels.ensures))
