use Rattle.std.proofs.Common.{subst, List, length}
use Rattle.gf_basis.specs.declared.bases.Basis.{Basis}
use Rattle.poly_mixed.specs.Labels.{Labelling}
use Rattle.circuit_model.specs.Bases.{circuit_in}
use Rattle.stage_model.specs.Listing.{AreAllWithin, IsRefusal}
use Rattle.spec_expand.specs.Expanded.{IsExpansion}
use Rattle.spec_expand.specs.SpecListing.{spec_listing}
use Rattle.spec_expand.specs.SpecValue.{spec_at}
use Rattle.spec_compare.specs.Verdict.{IsVerdict, comparison_of}
use Rattle.job_input.specs.Labelling.{labels_of}
use Rattle.job_input.specs.Setting.{setting_value}
use Rattle.job_input.specs.SettingValue.{SettingValue}
use Rattle.answer_core.specs.Abstraction.{taken_circuit}
use Rattle.answer_core.specs.Judged.{IsJudged}
use Rattle.answer_core.specs.StageStop.{IsStageStop}
use Rattle.answer_core.proofs.CheckLemmas.{expansion_in_bits, judged, labels_long, spec_over}
use Rattle.answer_core.proofs.RefusalLemmas.{one_refused}
use Rattle.answer_core.proofs.BoundBasesLemmas.{bases_are, left_in_bits}
use Rattle.answer_core.proofs.SpecStageLemmas.{spec_named}
use Rattle.answer_core.proofs.judged.verdict.Goals as goal

pub expand-requires-clause-k : goal.expand-requires-clause-k
expand-requires-clause-k g c = c.requires.taken.bits

pub expand-requires-clause-bases : goal.expand-requires-clause-bases
expand-requires-clause-bases g c =
    bases_are (g.F.Ring.degree c.args.field.now) (g.F.Ring.product c.args.field.now) c.args.setting.now c.requires.ready c.args.circuit.now c.requires.taken c.as_slice-bases.result.now c.as_slice-bases.ensures.value

pub expand-requires-clause-spec : goal.expand-requires-clause-spec
expand-requires-clause-spec g c =
    spec_over (g.F.Ring.degree c.args.field.now) (g.F.Ring.product c.args.field.now) c.args.setting.now c.requires.ready c.args.circuit.now c.requires.taken c.args.labels.now c.requires.labels c.as_slice-bases.result.now c.args.spec.now c.as_slice-bases.ensures.value c.requires.spec

pub stage_stop-requires : goal.stage_stop-requires
stage_stop-requires g c =
    let degree = g.F.Ring.degree c.args.field.now in
    let mul = g.F.Ring.product c.args.field.now in
    spec_named degree mul (circuit_in degree mul c.args.circuit.now c.as_slice-bases.result.now) c.args.spec.now (length c.args.labels.now.words) c.args.bound c.in-Err.fault c.in-Err.ensures.fault

pub returns-in-Err : goal.returns-in-Err
returns-in-Err g c =
    let degree = g.F.Ring.degree c.args.field.now in
    let mul = g.F.Ring.product c.args.field.now in
    let setting : SettingValue = setting_value degree mul c.args.setting.now in
    let circuit = c.args.circuit.now in
    let R : List Basis → Type 0 = λ bases. IsRefusal degree mul (spec_listing (circuit_in degree mul circuit bases) c.args.spec.now) c.args.bound c.in-Err.fault in
    let S : Labelling → Type 0 = λ l. IsStageStop l c.in-Err.fault c.args.bound c.stage_stop.result in
    one_refused degree mul (comparison_of (length c.args.labels.now.words)) c.args.bound (IsJudged setting circuit c.args.spec.now) (spec_listing (taken_circuit setting circuit) c.args.spec.now)
    (labels_of degree c.args.setting.now.signature.words) c.in-Err.fault c.stage_stop.result (subst R c.as_slice-bases.ensures.value c.in-Err.ensures.fault) (subst S c.requires.labels c.stage_stop.ensures)

pub compare-requires-clause-k : goal.compare-requires-clause-k
compare-requires-clause-k g c = c.requires.taken.bits

pub compare-requires-clause-bases : goal.compare-requires-clause-bases
compare-requires-clause-bases g c =
    bases_are (g.F.Ring.degree c.args.field.now) (g.F.Ring.product c.args.field.now) c.args.setting.now c.requires.ready c.args.circuit.now c.requires.taken c.as_slice-bases.result.now c.as_slice-bases.ensures.value

pub compare-requires-clause-left : goal.compare-requires-clause-left
compare-requires-clause-left g c =
    left_in_bits (g.F.Ring.degree c.args.field.now) (g.F.Ring.product c.args.field.now) c.args.setting.now c.requires.ready c.args.circuit.now c.requires.taken c.as_slice-bases.result.now c.as_slice-bases.ensures.value c.args.bits.now.terms c.requires.output

pub compare-requires-clause-right : goal.compare-requires-clause-right
compare-requires-clause-right g c =
    let degree = g.F.Ring.degree c.args.field.now in
    let mul = g.F.Ring.product c.args.field.now in
    expansion_in_bits (circuit_in degree mul c.args.circuit.now c.as_slice-bases.result.now) (λ xs. spec_at mul xs c.args.spec.now) c.in-Ok.expansion.terms c.in-Ok.ensures.polynomial

pub returns : goal.returns
returns g c =
    let degree = g.F.Ring.degree c.args.field.now in
    let mul = g.F.Ring.product c.args.field.now in
    let setting : SettingValue = setting_value degree mul c.args.setting.now in
    let circuit = c.args.circuit.now in
    let spec = c.args.spec.now in
    let ts = c.in-Ok.expansion.terms in
    let same = c.as_slice-bases.ensures.value in
    let E : List Basis → Type 0 = λ bases. IsExpansion (circuit_in degree mul circuit bases) (λ xs. spec_at mul xs spec) ts in
    let V : List Basis → Type 0 = λ bases. IsVerdict (circuit_in degree mul circuit bases) c.args.bits.now.terms ts c.in_ok-verdict.verdict in
    let W : List Basis → Type 0 = λ bases. AreAllWithin degree mul (spec_listing (circuit_in degree mul circuit bases) spec) c.args.bound in
    let long = labels_long degree mul c.args.setting.now c.requires.ready circuit c.requires.taken c.args.labels.now c.requires.labels in (
      judged setting circuit spec ts c.requires.well (subst E same c.in-Ok.ensures.polynomial) c.args.bits.now.terms c.in_ok-verdict.verdict (length c.args.labels.now.words) long c.requires.output (subst V same c.in_ok-verdict.ensures),
      subst W same c.in-Ok.ensures.within,
    )
