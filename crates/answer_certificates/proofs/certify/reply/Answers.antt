use Rattle.std.proofs.Common.{◌≤◌, ◌^◌, ◌∙◌, ℕ, List, ap, refl, sym, subst, length, arith}
use Rattle.outcome.specs.Outcome.{Exactly, Within}
use Rattle.net_core.specs.NetList.{nets}
use Rattle.poly_mixed.specs.Labels.{Labelling}
use Rattle.circuit_model.specs.OfBinding.{output_basis}
use Rattle.stage_model.specs.WordListing.{word_listing}
use Rattle.stage_model.proofs.ListingLemmas.{both_within}
use Rattle.cert_make.specs.CertText.{cert_text}
use Rattle.cert_make.specs.Writable.{IsWritable}
use Rattle.job_words.specs.declared.fault.Fault.TheVariants as faults
use Rattle.job_words.proofs.StepLemmas.{stops}
use Rattle.job_input.specs.Setting.{setting_value}
use Rattle.job_input.specs.SettingValue.{SettingValue}
use Rattle.answer_certificates.specs.Certificates.{certificate_labels}
use Rattle.answer_core.specs.Reply.{reply_of}
use Rattle.answer_core.specs.Abstraction.{bits_stages, taken_circuit}
use Rattle.answer_certificates.specs.Certify.{CertifyOf, IsCertificateText}
use Rattle.answer_core.specs.StageStop.{IsStageStop}
use Rattle.answer_certificates.proofs.RecordedLemmas.{can_be_written, is_certificate, with_duals}
use Rattle.answer_core.proofs.RefusalLemmas.{earlier_refused, later_refused, cuts_named, words_named}
use Rattle.answer_core.proofs.BoundBasesLemmas.{count}
use Rattle.answer_core.proofs.StageLemmas.{IsJob}
use Rattle.answer_certificates.proofs.certify.reply.Goals as goal

pub stage_stop-requires : goal.stage_stop-requires
stage_stop-requires g c =
    let degree = g.F.Ring.degree c.args.field.now in
    let mul = g.F.Ring.product c.args.field.now in
    let setting : SettingValue = setting_value degree mul c.args.setting.now in
    cuts_named degree mul c.args.circuit.now (output_basis c.args.circuit.now.binding.words setting.bases) (length c.in_ok-labels.labels.words) c.args.bound c.in-Err.fault c.in-Err.ensures.fault

pub returns-in-Err : goal.returns-in-Err
returns-in-Err g c =
    let degree = g.F.Ring.degree c.args.field.now in
    let mul = g.F.Ring.product c.args.field.now in
    let setting : SettingValue = setting_value degree mul c.args.setting.now in
    let circuit = c.args.circuit.now in
    let S : Labelling → Type 0 = λ l. IsStageStop l c.in-Err.fault c.args.bound c.stage_stop.result in
    let view : List ℕ → List ℕ = λ t. t in
    stops view reply_of c.stage_stop.result (Within faults.Stage (CertifyOf setting circuit c.args.bound)) (λ t. Exactly (record { status = 0; text = t })) ⊥ ⊥ ⊥ ⊥ (λ m. m) (λ f. f)
    (earlier_refused degree mul view c.args.bound (IsCertificateText setting circuit) (bits_stages setting circuit) (word_listing (taken_circuit setting circuit)) (certificate_labels setting circuit) c.in-Err.fault c.stage_stop.result c.in-Err.ensures.fault (subst S c.in_ok-labels.ensures.labels c.stage_stop.ensures))

pub in_words-requires-clause-sound : goal.in_words-requires-clause-sound
in_words-requires-clause-sound g c = c.last_terms.ensures.sound

pub in_words-requires-clause-is_bound : goal.in_words-requires-clause-is_bound
in_words-requires-clause-is_bound g c = c.last_terms.ensures.is_bound

pub in_words-requires-clause-few : goal.in_words-requires-clause-few
in_words-requires-clause-few g c =
    let small : length c.in-Ok.bits.items ≤ c.args.bound = c.in-Ok.ensures.few in
    omega (arith, small, c.ranges.bound.fits)

pub stage_stop-requires-in-Err-in_words : goal.stage_stop-requires-in-Err-in_words
stage_stop-requires-in-Err-in_words g c =
    let degree = g.F.Ring.degree c.args.field.now in
    let mul = g.F.Ring.product c.args.field.now in
    let whole = taken_circuit (setting_value degree mul c.args.setting.now) c.args.circuit.now in
    let long = count degree mul c.args.setting.now c.requires.ready c.args.circuit.now c.requires.taken ∙ sym (ap (λ (l : Labelling). length l.words) c.in_ok-labels.ensures.labels) in
    words_named degree mul whole (length c.in_ok-labels.labels.words) c.args.bound c.in-Err-in_words.fault long c.in-Err-in_words.ensures.fault

pub returns-in-Err-in_words : goal.returns-in-Err-in_words
returns-in-Err-in_words g c =
    let degree = g.F.Ring.degree c.args.field.now in
    let mul = g.F.Ring.product c.args.field.now in
    let setting : SettingValue = setting_value degree mul c.args.setting.now in
    let circuit = c.args.circuit.now in
    let S : Labelling → Type 0 = λ l. IsStageStop l c.in-Err-in_words.fault c.args.bound c.stage_stop-in-Err-in_words.result in
    let view : List ℕ → List ℕ = λ t. t in
    stops view reply_of c.stage_stop-in-Err-in_words.result (Within faults.Stage (CertifyOf setting circuit c.args.bound)) (λ t. Exactly (record { status = 0; text = t })) ⊥ ⊥ ⊥ ⊥ (λ m. m) (λ f. f)
    (later_refused degree mul view c.args.bound (IsCertificateText setting circuit) (bits_stages setting circuit) (word_listing (taken_circuit setting circuit)) (certificate_labels setting circuit) c.in-Err-in_words.fault c.stage_stop-in-Err-in_words.result c.in-Ok.ensures.within c.in-Err-in_words.ensures.fault
    (subst S c.in_ok-labels.ensures.labels c.stage_stop-in-Err-in_words.ensures))

pub write-requires : goal.write-requires
write-requires g c =
    let degree = g.F.Ring.degree c.args.field.now in
    let mul = g.F.Ring.product c.args.field.now in
    let circuit = c.args.circuit.now in
    let setting = c.args.setting.now in
    let job : IsJob degree mul circuit setting.bases.items = record { ring = g.met.F.Ring.laws c.args.field.now; nozero = g.met.F.Field.no_zero_divisors c.args.field.now; sound = c.certificate_labels.ensures.sound; bound = c.certificate_labels.ensures.is_bound; flat = c.certificate_labels.ensures.is_bound.flat.latches; same = c.requires.taken.bits; over = c.requires.ready.over; long = c.requires.taken.long } in
    let is = is_certificate degree mul setting c.requires.ready circuit c.requires.taken job c.in-Ok-in_words.claim.terms c.new-certificate.result c.last_terms.new.steps c.in_words.new.steps c.new-certificate.ensures c.in-Ok.ensures.steps c.in-Ok-in_words.ensures.steps c.in-Ok-in_words.ensures.words in
    let few : nets circuit.net ≤ 2 ^ 32 = omega (arith, c.certificate_labels.ensures.sound.inside.few_nets) in
    let P : Labelling → Type 0 = λ l. IsWritable l degree c.in-Ok-in_words.claim.terms c.in_words.new.steps in
    (degree, subst P (sym c.in_ok-labels.ensures.labels) (can_be_written degree mul setting c.requires.ready circuit c.requires.taken job few c.in-Ok-in_words.claim.terms c.in_words.new.steps is))

pub returns : goal.returns
returns g c =
    let degree = g.F.Ring.degree c.args.field.now in
    let mul = g.F.Ring.product c.args.field.now in
    let circuit = c.args.circuit.now in
    let setting = c.args.setting.now in
    let value : SettingValue = setting_value degree mul setting in
    let job : IsJob degree mul circuit setting.bases.items = record { ring = g.met.F.Ring.laws c.args.field.now; nozero = g.met.F.Field.no_zero_divisors c.args.field.now; sound = c.certificate_labels.ensures.sound; bound = c.certificate_labels.ensures.is_bound; flat = c.certificate_labels.ensures.is_bound.flat.latches; same = c.requires.taken.bits; over = c.requires.ready.over; long = c.requires.taken.long } in
    let claim = c.in-Ok-in_words.claim.terms in
    let pairs = c.in_words.new.steps in
    let is = is_certificate degree mul setting c.requires.ready circuit c.requires.taken job claim c.new-certificate.result c.last_terms.new.steps pairs c.new-certificate.ensures c.in-Ok.ensures.steps c.in-Ok-in_words.ensures.steps c.in-Ok-in_words.ensures.words in
    let text = c.in_ok-text.text.items in (
      text,
      (
        record {
          bases = setting.bases.items;
          duals = with_duals degree mul setting c.requires.ready circuit c.requires.taken job;
          claim = claim;
          pairs = pairs;
          recorded = is;
          written = c.in_ok-text.ensures ∙ ap (λ (l : Labelling). cert_text l claim pairs) c.in_ok-labels.ensures.labels;
        },
        both_within degree mul (bits_stages value circuit) (word_listing (taken_circuit value circuit)) c.args.bound c.in-Ok.ensures.within c.in-Ok-in_words.ensures.within,
      ),
      refl,
    )
