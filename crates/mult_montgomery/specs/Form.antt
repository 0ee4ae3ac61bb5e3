-- Signatures of which the multiplier is made, the net that is made, and what it computes.
-- Source: Koç and Acar, Montgomery multiplication in GF(2^k), Designs, Codes and Cryptography 14, 1998.
use Rattle.std.specs.Prelude.{◌≢◌, ℕ, List, [], take, drop}
use Rattle.gf_field.specs.Bit.{bit_mul}
use Rattle.gf_field.specs.Quotient.{product}
use Rattle.net_core.specs.NetList.{NetList}
use Rattle.make_nets.specs.Plan.{Plan}
use Rattle.net_words.specs.declared.word.WordText.{WordText}
use Rattle.net_signature.specs.Signature.{SignatureValue}
use Rattle.make_nets.specs.Made.{made_of}
use Rattle.make_laws.specs.InversePower.{IsInversePower}
use Rattle.mult_gen.specs.Form.{ComputesModulo, HasPolyForm, inputs_in, outer_of, outputs_in}
use Rattle.mult_montgomery.specs.Montgomery.{montgomery_plan}

-- two inputs in the basis of powers of a field without a tower, whose modulus is not x
pub record HasMontgomeryForm (signature : SignatureValue) : Type 0 where
  pub poly : HasPolyForm 2 signature
  pub modulus : signature.modulus ≢ 2

-- the gates, over the nets of the words
abbrev pub plan_of_words : (k g : ℕ) → List WordText → Plan
plan_of_words k g words = montgomery_plan (outer_of words) k g (take k (inputs_in words)) (drop k (inputs_in words)) (outputs_in words)

-- the multiplier modulo g, of degree k
abbrev pub made_montgomery : (k g : ℕ) → List WordText → NetList
made_montgomery k g words = made_of words [] [] (plan_of_words k g words)

-- a times b times r
abbrev pub montgomery_product : (k g r a b : ℕ) → ℕ
montgomery_product k g r a b = product 1 k bit_mul g (product 1 k bit_mul g a b) r

-- the net list computes the product of two words, times the inverse of x to the k
abbrev pub MultipliesWithInverse : (k g : ℕ) → NetList → List WordText → Type 0
MultipliesWithInverse k g net words = (r : ℕ) → IsInversePower k g r → ComputesModulo k g net words (montgomery_product k g r)
