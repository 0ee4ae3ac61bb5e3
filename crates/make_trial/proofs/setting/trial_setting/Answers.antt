use Rattle.std.proofs.Common.{◌≡◌, ◌∙◌, ap, ℕ}
use Rattle.gf_field.specs.Bit.{bit_mul}
use Rattle.gf_field.specs.Quotient.{product}
use Rattle.gf_field.specs.Ring2k.{degree_of, modulus_of}
use Rattle.irreducible.specs.Proved.{ring_of}
use Rattle.net_signature.specs.Signature.{SignatureValue}
use Rattle.job_input.specs.Setting.{setting_value}
use Rattle.make_trial.specs.TwoInputs.{two_inputs}
use Rattle.make_trial.proofs.SettingLemmas.{only_memory}
use Rattle.make_trial.proofs.setting.trial_setting.Goals as goal

pub want_of_memory-requires : goal.want_of_memory-requires
want_of_memory-requires c =
    let k = degree_of (ring_of c.args.ring.now) in
    let g = modulus_of (ring_of c.args.ring.now) in
    let K : ℕ → SignatureValue = λ a. two_inputs a c.modulus.result in
    let signed : c.in_ok-signature.signature ≡ two_inputs k g = c.in_ok-signature.ensures ∙ ap K c.k.ensures ∙ ap (two_inputs k) (c.modulus.ensures ∙ ap modulus_of c.ring.ensures) in
    only_memory k g c.in_ok-signature.signature signed (setting_value k (product 1 k bit_mul g)) c.in-Err.stop c.in-Err.ensures.gives
