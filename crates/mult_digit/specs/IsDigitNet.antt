-- The net list of a multiplier digit by digit for a signature. Source: this project's own, docs/FORMATS.md.
use Rattle.std.specs.Prelude.{◌≡◌, ℕ}
use Rattle.gf_field.specs.Bit.{bit_mul}
use Rattle.gf_field.specs.Quotient.{product}
use Rattle.net_core.specs.NetList.{NetList}
use Rattle.make_laws.specs.Indeterminate.{x_of}
use Rattle.net_signature.specs.Signature.{SignatureValue}
use Rattle.mult_digit.specs.DigitForm.{HasDigitForm}
use Rattle.mult_digit.specs.DigitNet.{digit_net}

-- the signature has the form, and this is its net list over the field of 2 to the k elements with this product and the root x
pub record IsDigitNet (k : ℕ) (mul : ℕ → ℕ → ℕ) (x : ℕ) (signature : SignatureValue) (net : NetList) : Type 0 where
  pub form : HasDigitForm k signature
  pub is : net ≡ digit_net k mul x form.width signature.words signature.feeds

-- that over the field of the polynomials modulo g, of degree k
abbrev pub IsDigitNetModulo : (k g : ℕ) → SignatureValue → NetList → Type 0
IsDigitNetModulo k g signature net = IsDigitNet k (product 1 k bit_mul g) (x_of k g) signature net
