-- Forms of signatures, and the nets that are made of them. Source: this project's own, docs/FORMATS.md.
use Rattle.std.specs.Prelude.{◌≡◌, ◌≢◌, ℕ, ◌^◌, List, [], length, take, drop, bit_xor}
use Rattle.lists.specs.Lists.{Has}
use Rattle.gf_basis.specs.Basis.{IsBasis, first_values}
use Rattle.gf_field.specs.Bit.{bit_mul}
use Rattle.gf_field.specs.Quotient.{product}
use Rattle.net_core.specs.NetList.{NetList}
use Rattle.net_words.specs.declared.word.Role.TheVariants.{Input, Fed, Output}
use Rattle.net_words.specs.declared.word.WordText.{WordText}
use Rattle.net_signature.specs.Signature.{SignatureValue}
use Rattle.make_nets.specs.Computes.{ComputesOfOne, ComputesOfTwo}
use Rattle.make_nets.specs.Form.{AllAlike, AllPoly, HasWords}
use Rattle.make_nets.specs.Made.{made_of}
use Rattle.make_nets.specs.MakerNames.{AreMakerNames}
use Rattle.make_nets.specs.Plan.{Plan}
use Rattle.make_nets.specs.Ports.{outer_names, role_nets, word_names}
use Rattle.mult_gen.specs.Chains.{adder_plan, mastrovito_plan, squarer_plan}

-- each word that is not fed has k nets
abbrev pub AreWide : ℕ → List WordText → Type 0
AreWide k words = (word : WordText) → Has words word → word.role ≢ Fed → length word.nets ≡ k

-- one output word and so many inputs, on different nets with plain names of at most 128 bytes; no feed and no block
pub record HasPorts (count : ℕ) (signature : SignatureValue) : Type 0 where
  pub blocks : signature.blocks ≡ []
  pub feeds : signature.feeds ≡ []
  pub words : HasWords Input count signature.words
  pub names : AreMakerNames (outer_names signature.words [])

-- so many inputs in the basis of powers of a field without a tower
pub record HasPolyForm (count : ℕ) (signature : SignatureValue) : Type 0 where
  pub tower : signature.tower ≡ []
  pub bases : AllPoly signature.words
  pub ports : HasPorts count signature

-- two inputs and the output in one basis
pub record HasAdderForm (signature : SignatureValue) : Type 0 where
  pub bases : AllAlike signature.words
  pub ports : HasPorts 2 signature

-- how many nets the words have
abbrev pub outer_of : List WordText → ℕ
outer_of words = length (word_names words)

-- the nets of the inputs, k for each, and of the output
abbrev pub inputs_in : List WordText → List ℕ
inputs_in words = role_nets Input 0 words

abbrev pub outputs_in : List WordText → List ℕ
outputs_in words = role_nets Output 0 words

-- the gates of the multiplier modulo g, of degree k, and its net list
abbrev pub mastrovito_over : (k g : ℕ) → List WordText → Plan
mastrovito_over k g words = mastrovito_plan (outer_of words) k g (take k (inputs_in words)) (drop k (inputs_in words)) (outputs_in words)

abbrev pub made_mastrovito : (k g : ℕ) → List WordText → NetList
made_mastrovito k g words = made_of words [] [] (mastrovito_over k g words)

-- those of the squarer
abbrev pub squarer_over : (k g : ℕ) → List WordText → Plan
squarer_over k g words = squarer_plan (outer_of words) k g (inputs_in words) (outputs_in words)

abbrev pub made_squarer : (k g : ℕ) → List WordText → NetList
made_squarer k g words = made_of words [] [] (squarer_over k g words)

-- those of the adder of words of k bits
abbrev pub adder_over : ℕ → List WordText → Plan
adder_over k words = adder_plan (outer_of words) k (take k (inputs_in words)) (drop k (inputs_in words)) (outputs_in words)

abbrev pub made_adder : ℕ → List WordText → NetList
made_adder k words = made_of words [] [] (adder_over k words)

-- the net list computes f of two words, in the field of the polynomials modulo g, of degree k, and in the basis of powers
abbrev pub ComputesModulo : (k g : ℕ) → NetList → List WordText → (ℕ → ℕ → ℕ) → Type 0
ComputesModulo k g net words f = ComputesOfTwo k (product 1 k bit_mul g) net words (first_values k (λ i. 2 ^ i)) 0 f

-- their product
abbrev pub MultipliesModulo : (k g : ℕ) → NetList → List WordText → Type 0
MultipliesModulo k g net words = ComputesModulo k g net words (product 1 k bit_mul g)

-- the square of one word
abbrev pub SquaresModulo : (k g : ℕ) → NetList → List WordText → Type 0
SquaresModulo k g net words = ComputesOfOne k (product 1 k bit_mul g) net words (first_values k (λ i. 2 ^ i)) 0 (λ a. product 1 k bit_mul g a a)

-- the sum of two words, in any basis
abbrev pub AddsInEachBasis : (k : ℕ) → (ℕ → ℕ → ℕ) → NetList → List WordText → Type 0
AddsInEachBasis k mul net words = (basis : List ℕ) → IsBasis k basis → ComputesOfTwo k mul net words basis 0 bit_xor
