use Rattle.std.proofs.Common.{List, Ok, sym, subst}
use Rattle.outcome.specs.Outcome.{MayRefuse}
use Rattle.gf_basis.specs.declared.bases.Basis.{Basis}
use Rattle.poly_mixed.specs.Labels.{Labelling}
use Rattle.cert_check.specs.Fault.{refusal}
use Rattle.cert_check.specs.Labels.{NameWords}
use Rattle.cert_check.specs.Verdict.{Check, verdict_of}
use Rattle.job_input.specs.Setting.{setting_value}
use Rattle.job_input.specs.SettingValue.{SettingValue}
use Rattle.answer_certificates.proofs.CertifiedLemmas.{verdict_stopped}
use Rattle.answer_certificates.proofs.RecordedLemmas.{labels_name, verdict_named, with_duals}
use Rattle.answer_core.proofs.BoundBasesLemmas.{bases_are}
use Rattle.answer_core.proofs.StageLemmas.{IsJob}
use Rattle.answer_certificates.proofs.verify.verdict.Goals as goal

pub check-requires-clause-k : goal.check-requires-clause-k
check-requires-clause-k g c = c.requires.taken.bits

pub check-requires-clause-bases : goal.check-requires-clause-bases
check-requires-clause-bases g c =
    bases_are (g.F.Ring.degree c.args.field.now) (g.F.Ring.product c.args.field.now) c.args.setting.now c.requires.ready c.args.circuit.now c.requires.taken c.as_slice-bases.result.now c.as_slice-bases.ensures.value

pub check-requires-clause-labels : goal.check-requires-clause-labels
check-requires-clause-labels g c =
    let degree = g.F.Ring.degree c.args.field.now in
    let mul = g.F.Ring.product c.args.field.now in
    let circuit = c.args.circuit.now in
    let setting = c.args.setting.now in
    let job : IsJob degree mul circuit setting.bases.items = record { ring = g.met.F.Ring.laws c.args.field.now; nozero = g.met.F.Field.no_zero_divisors c.args.field.now; sound = c.certificate_labels.ensures.sound; bound = c.certificate_labels.ensures.is_bound; flat = c.certificate_labels.ensures.is_bound.flat.latches; same = c.requires.taken.bits; over = c.requires.ready.over; long = c.requires.taken.long } in
    let P : Labelling → Type 0 = NameWords circuit.binding in
    subst P (sym c.in_ok-labels.ensures.labels) (labels_name degree mul setting c.requires.ready circuit c.requires.taken job)

pub returns-in-Ok-clause-gives : goal.returns-in-Ok-clause-gives
returns-in-Ok-clause-gives g c =
    let degree = g.F.Ring.degree c.args.field.now in
    let mul = g.F.Ring.product c.args.field.now in
    let circuit = c.args.circuit.now in
    let setting = c.args.setting.now in
    let job : IsJob degree mul circuit setting.bases.items = record { ring = g.met.F.Ring.laws c.args.field.now; nozero = g.met.F.Field.no_zero_divisors c.args.field.now; sound = c.certificate_labels.ensures.sound; bound = c.certificate_labels.ensures.is_bound; flat = c.certificate_labels.ensures.is_bound.flat.latches; same = c.requires.taken.bits; over = c.requires.ready.over; long = c.requires.taken.long } in
    let P : List Basis → Type 0 = λ bases. Check degree mul circuit bases c.in_ok-labels.labels c.args.bound c.args.bytes.now (Ok (verdict_of c.in-Ok.verdict)) in
    let Q : Labelling → Type 0 = λ l. Check degree mul circuit setting.bases.items l c.args.bound c.args.bytes.now (Ok (verdict_of c.in-Ok.verdict)) in
    (setting.bases.items, with_duals degree mul setting c.requires.ready circuit c.requires.taken job, subst Q c.in_ok-labels.ensures.labels (subst P c.as_slice-bases.ensures.value c.in-Ok.ensures))

pub returns-in-Ok-clause-named : goal.returns-in-Ok-clause-named
returns-in-Ok-clause-named g c =
    let degree = g.F.Ring.degree c.args.field.now in
    let mul = g.F.Ring.product c.args.field.now in
    let circuit = c.args.circuit.now in
    let setting = c.args.setting.now in
    let job : IsJob degree mul circuit setting.bases.items = record { ring = g.met.F.Ring.laws c.args.field.now; nozero = g.met.F.Field.no_zero_divisors c.args.field.now; sound = c.certificate_labels.ensures.sound; bound = c.certificate_labels.ensures.is_bound; flat = c.certificate_labels.ensures.is_bound.flat.latches; same = c.requires.taken.bits; over = c.requires.ready.over; long = c.requires.taken.long } in
    let P : List Basis → Type 0 = λ bases. Check degree mul circuit bases c.in_ok-labels.labels c.args.bound c.args.bytes.now (Ok (verdict_of c.in-Ok.verdict)) in
    let Q : Labelling → Type 0 = λ l. Check degree mul circuit setting.bases.items l c.args.bound c.args.bytes.now (Ok (verdict_of c.in-Ok.verdict)) in
    verdict_named degree mul setting c.requires.ready circuit c.requires.taken job c.args.bound c.args.bytes.now (verdict_of c.in-Ok.verdict) (subst Q c.in_ok-labels.ensures.labels (subst P c.as_slice-bases.ensures.value c.in-Ok.ensures))

pub returns-clause-gives : goal.returns-clause-gives
returns-clause-gives g c =
    let degree = g.F.Ring.degree c.args.field.now in
    let mul = g.F.Ring.product c.args.field.now in
    let circuit = c.args.circuit.now in
    let setting = c.args.setting.now in
    let value : SettingValue = setting_value degree mul setting in
    let job : IsJob degree mul circuit setting.bases.items = record { ring = g.met.F.Ring.laws c.args.field.now; nozero = g.met.F.Field.no_zero_divisors c.args.field.now; sound = c.certificate_labels.ensures.sound; bound = c.certificate_labels.ensures.is_bound; flat = c.certificate_labels.ensures.is_bound.flat.latches; same = c.requires.taken.bits; over = c.requires.ready.over; long = c.requires.taken.long } in
    let P : List Basis → Type 0 = λ bases. MayRefuse (Check degree mul circuit bases c.in_ok-labels.labels c.args.bound c.args.bytes.now) (refusal c.in-Err.fault) in
    let Q : Labelling → Type 0 = λ l. MayRefuse (Check degree mul circuit setting.bases.items l c.args.bound c.args.bytes.now) (refusal c.in-Err.fault) in
    verdict_stopped value circuit c.args.bound c.args.bytes.now setting.bases.items c.in-Err.fault c.sum_stop.result (with_duals degree mul setting c.requires.ready circuit c.requires.taken job)
    (subst Q c.in_ok-labels.ensures.labels (subst P c.as_slice-bases.ensures.value c.in-Err.ensures)) c.sum_stop.ensures
