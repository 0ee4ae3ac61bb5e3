-- What a net computes with words that are fed. Source: this project's own, docs/DEFINITIONS.md.
use Rattle.std.specs.Prelude.{ℕ, ◌<◌, ◌^◌, List, [], ◌∷◌, Ok}
use Rattle.gf_field.specs.Bit.{bit_mul}
use Rattle.gf_field.specs.Quotient.{product}
use Rattle.net_core.specs.NetList.{NetList}
use Rattle.net_words.specs.Bind.{BindingOf}
use Rattle.net_words.specs.Binding.{Binding}
use Rattle.net_words.specs.declared.feed.FeedText.{FeedText}
use Rattle.net_words.specs.declared.word.Role.TheVariants.{Output}
use Rattle.net_words.specs.declared.word.WordText.{WordText}
use Rattle.circuit_model.specs.JobOfBinding.{job_with}
use Rattle.circuit_model.specs.Out.{IsOut}
use Rattle.make_nets.specs.Form.{same_bases}
use Rattle.make_nets.specs.Ports.{role_nets}
use Rattle.net_signature.specs.Signature.{SignatureValue}
use Rattle.make_laws.specs.DigitNets.{HoldSumsSoFar, unit_basis}
use Rattle.make_laws.specs.Indeterminate.{x_of}
use Rattle.mult_gen.specs.Form.{AreWide}
use Rattle.mult_digit.specs.IsDigitNet.{IsDigitNet}

-- Over the field of 2 to the k elements with this product, with this basis for each word: the words and feeds bind to the net
-- list in one way, and the output of the job is f of the elements of its two words, at each input, after so many cycles.
pub record ComputesFed (k : ℕ) (product : ℕ → ℕ → ℕ) (net : NetList) (words : List WordText) (feeds : List FeedText) (basis : List ℕ) (cycles : ℕ) (f : ℕ → ℕ → ℕ) : Type 0 where
  pub binding : Binding
  pub binds : BindingOf net words feeds (Ok binding)
  pub out : (binding : Binding) → BindingOf net words feeds (Ok binding) → (a b : ℕ) → a < 2 ^ k → b < 2 ^ k → IsOut (job_with k product (record { net = net; binding = binding }) (same_bases basis words) cycles) (a ∷ b ∷ []) (f a b)

-- the net list of a signature that has the form computes the product after k / D cycles, where digits have D bits
abbrev pub ComputesDigits : (k : ℕ) → (ℕ → ℕ → ℕ) → (x : ℕ) → SignatureValue → NetList → Type 0
ComputesDigits k mul x signature net =
    (made : IsDigitNet k mul x signature net) → ComputesFed k mul net signature.words signature.feeds (unit_basis k) made.form.feeds.count mul

-- over the field of the polynomials modulo g, of degree k
abbrev pub ComputesDigitsModulo : (k g : ℕ) → SignatureValue → NetList → Type 0
ComputesDigitsModulo k g signature net = ComputesDigits k (product 1 k bit_mul g) (x_of k g) signature net

-- in each run of the job over the words and feeds of such a net list, the latches of the product hold after t cycles the sum of the
-- digits that were fed so far, times the other factor
abbrev pub HoldsDigitSums : (k : ℕ) → (ℕ → ℕ → ℕ) → (x : ℕ) → SignatureValue → NetList → Type 0
HoldsDigitSums k mul x signature net =
    (made : IsDigitNet k mul x signature net) (binding : Binding) → BindingOf net signature.words signature.feeds (Ok binding)
    → HoldSumsSoFar (job_with k mul (record { net = net; binding = binding }) (same_bases (unit_basis k) signature.words) made.form.feeds.count) x made.form.width (role_nets Output 0 signature.words)

-- so it is over the field of the polynomials modulo g, of degree k, where words that are not fed have k nets
abbrev pub HoldWideDigitSums : (k g : ℕ) → SignatureValue → NetList → Type 0
HoldWideDigitSums k g signature net = AreWide k signature.words → HoldsDigitSums k (product 1 k bit_mul g) (x_of k g) signature net
