-- What a trial is given: a multiplier with one bit of one table turned over, and the product beside it. Source: this project's own, docs/COMMANDS.md.
use Rattle.std.specs.Prelude.{◌≡◌, ℕ, ◌*◌, ◌/◌, ◌%◌, ◌^◌, List, [], ◌∷◌}
use Rattle.gf_basis.specs.Basis.{first_values}
use Rattle.gf_field.specs.Bit.{bit_mul}
use Rattle.gf_field.specs.Quotient.{product}
use Rattle.net_core.specs.NetList.{NetList}
use Rattle.net_core.specs.Turned.{turned}
use Rattle.net_words.specs.Binding.{BoundNet}
use Rattle.net_words.specs.declared.word.WordText.{WordText}
use Rattle.make_nets.specs.BindingOfMade.{binding_of}
use Rattle.make_nets.specs.Form.{same_bases}
use Rattle.mult_gen.specs.Form.{made_mastrovito}
use Rattle.spec_expand.specs.Specification.{SpecTerms}
use Rattle.job_input.specs.Setting.{setting_value}
use Rattle.job_input.specs.SettingValue.{SettingValue}
use Rattle.job_input.specs.declared.setting.Setting.{Setting}
use Rattle.make_trial.specs.TwoInputs.{two_inputs}

-- the gate that is turned, one of the k * k products of the multiplier
abbrev pub trial_place : (k number : ℕ) → ℕ
trial_place k number = number % (k * k)

-- the bit of its table that is turned over
abbrev pub trial_index : (k number : ℕ) → ℕ
trial_index k number = number / (k * k) % 4

-- the input words A and B and the output word Z, of k bits each
abbrev pub trial_words : ℕ → List WordText
trial_words k = (two_inputs k 0).words

-- these words over the field of the modulus g, of degree k, each in the basis of powers
abbrev pub trial_setting : (k g : ℕ) → SettingValue
trial_setting k g = record { signature = two_inputs k g; k = k; product = product 1 k bit_mul g; bases = same_bases (first_values k (λ i. 2 ^ i)) (trial_words k) }

-- it is this setting
abbrev pub IsTrialSetting : (k g : ℕ) → Setting → Type 0
IsTrialSetting k g setting = setting_value k (product 1 k bit_mul g) setting ≡ trial_setting k g

-- the multiplier with the bit turned over
unfoldable pub trial_net : (k g number : ℕ) → NetList
trial_net k g number = turned (made_mastrovito k g (trial_words k)) (trial_place k number) (trial_index k number)

-- the words on its nets
abbrev pub trial_circuit : (k g number : ℕ) → BoundNet
trial_circuit k g number = record { net = trial_net k g number; binding = binding_of (trial_net k g number) (trial_words k) [] }

-- A * B
abbrev pub product_terms : SpecTerms
product_terms = (1, (0, 1) ∷ (1, 1) ∷ []) ∷ []
