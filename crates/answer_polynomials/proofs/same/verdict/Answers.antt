use Rattle.std.proofs.Common.{◌≡◌, ap, subst, length}
use Rattle.poly_mixed.specs.Labels.{Labelling}
use Rattle.stage_model.proofs.ListingLemmas.{both_within}
use Rattle.spec_compare.specs.Verdict.{comparison_of}
use Rattle.job_input.specs.Labelling.{labels_of}
use Rattle.job_input.specs.Setting.{setting_value}
use Rattle.job_input.specs.SettingValue.{SettingValue}
use Rattle.circuit_model.specs.OfBinding.{output_basis}
use Rattle.answer_core.specs.Staged.{second_text}
use Rattle.answer_core.specs.Abstraction.{bits_stages}
use Rattle.answer_polynomials.specs.Same.{AreCompared}
use Rattle.answer_core.specs.StageStop.{IsStageStop, IsStopCalled}
use Rattle.answer_core.proofs.RefusalLemmas.{cuts_named}
use Rattle.answer_core.proofs.BoundBasesLemmas.{bases_are, left_in_bits}
use Rattle.answer_polynomials.proofs.SameLemmas.{right_in_bits, compared}
use Rattle.answer_polynomials.proofs.SameRefusalLemmas.{first_refused, second_refused}
use Rattle.answer_polynomials.proofs.same.verdict.Goals as goal

pub stage_stop-requires : goal.stage_stop-requires
stage_stop-requires g c =
    let degree = g.F.Ring.degree c.args.field.now in
    let mul = g.F.Ring.product c.args.field.now in
    let setting : SettingValue = setting_value degree mul c.args.setting.now in
    cuts_named degree mul c.args.circuit.now (output_basis c.args.circuit.now.binding.words setting.bases) (length c.args.labels.now.words) c.args.bound c.in-Err.fault c.in-Err.ensures.fault

pub second_stage_stop-requires : goal.second_stage_stop-requires
second_stage_stop-requires g c =
    let degree = g.F.Ring.degree c.args.field.now in
    let mul = g.F.Ring.product c.args.field.now in
    let setting : SettingValue = setting_value degree mul c.args.setting.now in
    cuts_named degree mul c.args.other.now (output_basis c.args.other.now.binding.words setting.bases) (length c.args.labels.now.words) c.args.bound c.in-Err-last_cut.fault c.in-Err-last_cut.ensures.fault

pub returns-in-Err : goal.returns-in-Err
returns-in-Err g c =
    let degree = g.F.Ring.degree c.args.field.now in
    let mul = g.F.Ring.product c.args.field.now in
    let setting : SettingValue = setting_value degree mul c.args.setting.now in
    let S : Labelling → Type 0 = λ l. IsStageStop l c.in-Err.fault c.args.bound c.stage_stop.result in
    first_refused degree mul (comparison_of (length c.args.labels.now.words)) c.args.bound (AreCompared setting c.args.circuit.now c.args.other.now) (bits_stages setting c.args.circuit.now) (bits_stages setting c.args.other.now)
    (labels_of degree c.args.setting.now.signature.words) c.in-Err.fault c.stage_stop.result c.in-Err.ensures.fault (subst S c.requires.labels c.stage_stop.ensures)

pub returns-in-Err-last_cut : goal.returns-in-Err-last_cut
returns-in-Err-last_cut g c =
    let degree = g.F.Ring.degree c.args.field.now in
    let mul = g.F.Ring.product c.args.field.now in
    let setting : SettingValue = setting_value degree mul c.args.setting.now in
    let S : Labelling → Type 0 = λ l. IsStopCalled (second_text l) c.in-Err-last_cut.fault c.args.bound c.second_stage_stop.result in
    second_refused degree mul (comparison_of (length c.args.labels.now.words)) c.args.bound (AreCompared setting c.args.circuit.now c.args.other.now) (bits_stages setting c.args.circuit.now) (bits_stages setting c.args.other.now)
    (labels_of degree c.args.setting.now.signature.words) c.in-Err-last_cut.fault c.second_stage_stop.result c.in-Ok.ensures.within c.in-Err-last_cut.ensures.fault (subst S c.requires.labels c.second_stage_stop.ensures)

pub compare-requires-clause-k : goal.compare-requires-clause-k
compare-requires-clause-k g c = c.requires.first.bits

pub compare-requires-clause-bases : goal.compare-requires-clause-bases
compare-requires-clause-bases g c =
    let degree = g.F.Ring.degree c.args.field.now in
    let mul = g.F.Ring.product c.args.field.now in
    bases_are degree mul c.args.setting.now c.requires.ready c.args.circuit.now c.requires.first c.as_slice.result.now c.as_slice.ensures.value

pub compare-requires-clause-left : goal.compare-requires-clause-left
compare-requires-clause-left g c =
    let degree = g.F.Ring.degree c.args.field.now in
    let mul = g.F.Ring.product c.args.field.now in
    left_in_bits degree mul c.args.setting.now c.requires.ready c.args.circuit.now c.requires.first c.as_slice.result.now c.as_slice.ensures.value c.in-Ok.left.terms c.in-Ok.ensures.output

pub compare-requires-clause-right : goal.compare-requires-clause-right
compare-requires-clause-right g c =
    let degree = g.F.Ring.degree c.args.field.now in
    let mul = g.F.Ring.product c.args.field.now in
    right_in_bits degree mul c.args.setting.now c.requires.ready c.args.circuit.now c.args.other.now c.requires.first c.requires.second c.as_slice.result.now c.as_slice.ensures.value c.last_cut.ensures.well c.last_cut-2.ensures.well c.in-Ok-last_cut.right.terms c.in-Ok-last_cut.ensures.output

pub returns : goal.returns
returns g c =
    let degree = g.F.Ring.degree c.args.field.now in
    let mul = g.F.Ring.product c.args.field.now in
    let setting : SettingValue = setting_value degree mul c.args.setting.now in
    let long : length c.args.labels.now.words ≡ length (labels_of degree c.args.setting.now.signature.words).words = ap (λ (l : Labelling). length l.words) c.requires.labels in (
      compared degree mul c.args.setting.now c.requires.ready c.args.circuit.now c.args.other.now c.requires.first c.requires.second c.as_slice.result.now c.as_slice.ensures.value c.last_cut.ensures.well c.last_cut-2.ensures.well
          c.in-Ok.left.terms c.in-Ok-last_cut.right.terms c.in_ok-verdict.verdict (length c.args.labels.now.words) long c.in-Ok.ensures.output c.in-Ok-last_cut.ensures.output c.in_ok-verdict.ensures,
      both_within degree mul (bits_stages setting c.args.circuit.now) (bits_stages setting c.args.other.now) c.args.bound c.in-Ok.ensures.within c.in-Ok-last_cut.ensures.within,
    )
