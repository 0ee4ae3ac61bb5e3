use Rattle.std.proofs.Common.{◌∙◌, ap, sym, subst}
use Rattle.gf_field.specs.Bit.{bit_mul}
use Rattle.gf_field.specs.Quotient.{product}
use Rattle.gf_field.specs.Ring2k.{degree_of, modulus_of}
use Rattle.gf_field.specs.laws.IrreducibleBitLaws.{field_by_modulus}
use Rattle.gf_tower.specs.FieldName.{IsFieldModulus}
use Rattle.irreducible.specs.Proved.{ring_of}
use Rattle.net_words.specs.Binding.{BoundNet}
use Rattle.circuit_model.specs.Differing.{AreSame}
use Rattle.circuit_model.specs.Out.{IsOut}
use Rattle.spec_expand.specs.Specification.{SpecTerms}
use Rattle.job_words.specs.Stop.{GivesBy}
use Rattle.job_input.specs.Labelling.{labels_of}
use Rattle.job_input.specs.Setting.{setting_value}
use Rattle.job_input.specs.SettingValue.{SettingValue}
use Rattle.make_trial.specs.Trial.{product_terms, trial_circuit}
use Rattle.answer_core.specs.Reply.{reply_of}
use Rattle.answer_core.specs.Abstraction.{taken_circuit}
use Rattle.answer_core.specs.Judged.{IsSpecified}
use Rattle.answer_makers.specs.Trial.{TrialOver, TrialReply}
use Rattle.answer_makers.proofs.TrialLemmas.{memory_alone, trial_apart}
use Rattle.answer_makers.proofs.trial.over.Goals as goal

pub trial_circuit-requires-clause-signature : goal.trial_circuit-requires-clause-signature
trial_circuit-requires-clause-signature c = ap (λ (s : SettingValue). s.signature) c.in_ok-setting.ensures.value

pub product_spec-requires : goal.product_spec-requires
product_spec-requires c =
    c.in_ok-labels.ensures ∙ ap (λ (s : SettingValue). labels_of (degree_of (ring_of c.args.ring.now)) s.signature.words) c.in_ok-setting.ensures.value

pub reply-requires-clause-apart : goal.reply-requires-clause-apart
reply-requires-clause-apart c =
    let ring = c.args.ring.now in
    let k = degree_of (ring_of ring) in
    let g = modulus_of (ring_of ring) in
    let number = c.args.words.now.number in
    let name : IsFieldModulus k g = record { modulus = ring.ring.fits; irreducible = (field_by_modulus k g ring.ring.fits).0 ring.no_zero_divisors } in
    let S : SettingValue → Type 0 = λ s. AreSame (taken_circuit s (trial_circuit k g number)) (IsOut (taken_circuit s (trial_circuit k g number))) (IsSpecified s (taken_circuit s (trial_circuit k g number)) product_terms) → ⊥ in
    let setting = setting_value k (product 1 k bit_mul g) c.in_ok-setting.setting in
    let B : BoundNet → Type 0 = λ b. AreSame (taken_circuit setting b) (IsOut (taken_circuit setting b)) (IsSpecified setting (taken_circuit setting b) product_terms) → ⊥ in
    let T : SpecTerms → Type 0 = λ t. AreSame (taken_circuit setting c.in_ok-circuit.circuit) (IsOut (taken_circuit setting c.in_ok-circuit.circuit)) (IsSpecified setting (taken_circuit setting c.in_ok-circuit.circuit) t) → ⊥ in
    subst T (sym c.in_ok-spec.ensures.product) (subst B (sym c.in_ok-circuit.ensures.circuit) (subst S (sym c.in_ok-setting.ensures.value) (trial_apart k g number name)))

pub returns : goal.returns
returns c =
    let ring = c.args.ring.now in
    let k = degree_of (ring_of ring) in
    let g = modulus_of (ring_of ring) in
    let words = c.args.words.now in
    let S : SettingValue → Type 0 = λ s. GivesBy reply_of c.reply.result (TrialReply s (trial_circuit k g words.number) product_terms words.number words.terms) ⊥ ⊥ in
    let setting = setting_value k (product 1 k bit_mul g) c.in_ok-setting.setting in
    let B : BoundNet → Type 0 = λ b. GivesBy reply_of c.reply.result (TrialReply setting b product_terms words.number words.terms) ⊥ ⊥ in
    let T : SpecTerms → Type 0 = λ t. GivesBy reply_of c.reply.result (TrialReply setting c.in_ok-circuit.circuit t words.number words.terms) ⊥ ⊥ in
    subst S c.in_ok-setting.ensures.value (subst B c.in_ok-circuit.ensures.circuit (subst T c.in_ok-spec.ensures.product c.reply.ensures))

pub returns-in_err-spec : goal.returns-in_err-spec
returns-in_err-spec c =
    let ring = ring_of c.args.ring.now in
    let words = c.args.words.now in
    let gone = c.from_residual-in_err-spec.ensures in
    memory_alone reply_of c.from_residual-in_err-spec.result (TrialOver (degree_of ring) (modulus_of ring) words.number words.terms) gone.0 gone.1
