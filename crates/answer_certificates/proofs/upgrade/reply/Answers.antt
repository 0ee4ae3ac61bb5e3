use Rattle.std.proofs.Common.{◌≤◌, ◌^◌, ℕ, List, Vec, Ok, refl, sym, subst, length, arith}
use Rattle.std.specs.declared.alloc.Global.{Global}
use Rattle.outcome.specs.Outcome.{Exactly, MayRefuse}
use Rattle.net_core.specs.NetList.{nets}
use Rattle.poly_mixed.specs.Labels.{Labelling}
use Rattle.cert_check.specs.Fault.{refusal}
use Rattle.cert_make.specs.Upgrade.{UpgradeOf}
use Rattle.cert_make.specs.Writable.{HaveNumbers}
use Rattle.job_words.specs.Stop.{bytes_of}
use Rattle.job_words.proofs.StepLemmas.{stops}
use Rattle.job_input.specs.Setting.{setting_value}
use Rattle.job_input.specs.SettingValue.{SettingValue}
use Rattle.answer_core.specs.Reply.{reply_of}
use Rattle.answer_certificates.specs.Upgrade.{UpgradedOf}
use Rattle.answer_certificates.proofs.CertifiedLemmas.{upgrade_stopped}
use Rattle.answer_certificates.proofs.RecordedLemmas.{labels_number}
use Rattle.answer_core.proofs.StageLemmas.{IsJob}
use Rattle.answer_certificates.proofs.upgrade.reply.Goals as goal

pub upgrade-requires-clause-numbers : goal.upgrade-requires-clause-numbers
upgrade-requires-clause-numbers g c =
    let degree = g.F.Ring.degree c.args.field.now in
    let mul = g.F.Ring.product c.args.field.now in
    let circuit = c.args.certified.now.circuit in
    let setting = c.args.setting.now in
    let job : IsJob degree mul circuit setting.bases.items = record { ring = g.met.F.Ring.laws c.args.field.now; nozero = g.met.F.Field.no_zero_divisors c.args.field.now; sound = c.certificate_labels.ensures.sound; bound = c.certificate_labels.ensures.is_bound; flat = c.certificate_labels.ensures.is_bound.flat.latches; same = c.requires.taken.bits; over = c.requires.ready.over; long = c.requires.taken.long } in
    let few : nets circuit.net ≤ 2 ^ 32 = omega (arith, c.certificate_labels.ensures.sound.inside.few_nets) in
    let P : Labelling → Type 0 = HaveNumbers degree circuit.net in
    rw c.k.ensures (subst P (sym c.in_ok-labels.ensures.labels) (labels_number degree mul setting c.requires.ready circuit c.requires.taken job few))

pub upgrade-requires-clause-size : goal.upgrade-requires-clause-size
upgrade-requires-clause-size g c = let P : List ℕ → Type 0 = λ xs. length xs ≤ 67108864 in subst P (sym c.deref.ensures.value) c.requires.short

pub returns-in-Ok : goal.returns-in-Ok
returns-in-Ok g c =
    let degree = g.F.Ring.degree c.args.field.now in
    let circuit = c.args.certified.now.circuit in
    let text = c.in-Ok.text.items in
    let K : ℕ → Type 0 = λ k. UpgradeOf k circuit.net c.in_ok-labels.labels c.deref.result.now (Ok text) in
    let P : List ℕ → Type 0 = λ xs. UpgradeOf degree circuit.net c.in_ok-labels.labels xs (Ok text) in
    let Q : Labelling → Type 0 = λ l. UpgradeOf degree circuit.net l c.args.certified.now.text.items (Ok text) in
    (text, subst Q c.in_ok-labels.ensures.labels (subst P c.deref.ensures.value (subst K c.k.ensures c.in-Ok.ensures)), refl)

pub returns : goal.returns
returns g c =
    let degree = g.F.Ring.degree c.args.field.now in
    let mul = g.F.Ring.product c.args.field.now in
    let circuit = c.args.certified.now.circuit in
    let setting : SettingValue = setting_value degree mul c.args.setting.now in
    let bytes = c.args.certified.now.text.items in
    let K : ℕ → Type 0 = λ k. MayRefuse (UpgradeOf k circuit.net c.in_ok-labels.labels c.deref.result.now) (refusal c.in-Err.fault) in
    let P : List ℕ → Type 0 = λ xs. MayRefuse (UpgradeOf degree circuit.net c.in_ok-labels.labels xs) (refusal c.in-Err.fault) in
    let Q : Labelling → Type 0 = λ l. MayRefuse (UpgradeOf degree circuit.net l bytes) (refusal c.in-Err.fault) in
    stops {X = Vec ℕ Global} bytes_of reply_of c.text_stop.result (UpgradedOf setting circuit bytes) (λ t. Exactly (record { status = 0; text = t })) ⊥ ⊥ ⊥ ⊥ (λ m. m) (λ f. f)
    (upgrade_stopped {X = Vec ℕ Global} bytes_of setting circuit bytes c.in-Err.fault c.text_stop.result (subst Q c.in_ok-labels.ensures.labels (subst P c.deref.ensures.value (subst K c.k.ensures c.in-Err.ensures))) c.text_stop.ensures)
