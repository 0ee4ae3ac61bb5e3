-- What the netlists that `make` prints compute. Sources: of each kind's netlist, those of its maker.
use Rattle.std.specs.Prelude.{◌≡◌, ℕ, ◌*◌, ◌<◌, ◌^◌, List, [], ◌∷◌, bit_xor, Some, Ok}
use Rattle.job_io.specs.Shelf.{Files, Has}
use Rattle.circuit_model.specs.Circuit.{Circuit}
use Rattle.circuit_model.specs.Out.{IsOut}
use Rattle.make_laws.specs.InversePower.{IsInversePower}
use Rattle.mult_digit.specs.DigitForm.{AreDigitFeeds}
use Rattle.job_words.specs.Operands.{Word, IsBlifName}
use Rattle.job_words.specs.declared.kind.Kind.{Kind}
use Rattle.job_words.specs.declared.kind.Kind.TheVariants.{Mastrovito, Montgomery, Composite, Normal, Adder, Squarer, Digit}
use Rattle.job_input.specs.File.{Read}
use Rattle.job_input.specs.SettingValue.{SettingValue}
use Rattle.answer_core.specs.Printed.{AreHeld}

-- Both hold the same signature, and the second holds the text as a netlist in BLIF.
pub record HoldMade (files others : Files) (signature net : Word) (text : List ℕ) : Type 0 where
  pub bytes : List ℕ
  pub signature_read : Read (Some files) signature (Ok bytes)
  pub signature_too : Read (Some others) signature (Ok bytes)
  pub net_held : Has (Some others) net text
  pub name : IsBlifName net

-- the output is a function of the elements of the job's two words
abbrev pub HasOutputOfTwo : Circuit → (ℕ → ℕ → ℕ) → Type 0
HasOutputOfTwo job f = (a b : ℕ) → a < 2 ^ job.k → b < 2 ^ job.k → IsOut job (a ∷ b ∷ []) (f a b)

-- or of the element of its one word
abbrev pub HasOutputOfOne : Circuit → (ℕ → ℕ) → Type 0
HasOutputOfOne job f = (a : ℕ) → a < 2 ^ job.k → IsOut job (a ∷ []) (f a)

-- the output is the product times the inverse of x to the k
pub record HasMontgomeryOutput (setting : SettingValue) (job : Circuit) : Type 0 where
  pub inverse : ℕ
  pub is_inverse : IsInversePower setting.k setting.signature.modulus inverse
  pub output : HasOutputOfTwo job (λ a b. setting.product (setting.product a b) inverse)

-- what a job of each kind computes
abbrev pub ComputesKind : SettingValue → Kind → Circuit → Type 0
ComputesKind setting Mastrovito job = HasOutputOfTwo job setting.product
ComputesKind setting Montgomery job = HasMontgomeryOutput setting job
ComputesKind setting Composite job = HasOutputOfTwo job setting.product
ComputesKind setting Normal job = HasOutputOfTwo job setting.product
ComputesKind setting Adder job = HasOutputOfTwo job bit_xor
ComputesKind setting Squarer job = HasOutputOfOne job (λ a. setting.product a a)
ComputesKind setting Digit job = HasOutputOfTwo job setting.product

-- after so many cycles a job of each kind computes this; where it is fed digits, after one for each digit
abbrev pub AreCyclesOf : SettingValue → Kind → ℕ → Type 0
AreCyclesOf setting Mastrovito cycles = cycles ≡ 0
AreCyclesOf setting Montgomery cycles = cycles ≡ 0
AreCyclesOf setting Composite cycles = cycles ≡ 0
AreCyclesOf setting Normal cycles = cycles ≡ setting.k
AreCyclesOf setting Adder cycles = cycles ≡ 0
AreCyclesOf setting Squarer cycles = cycles ≡ 0
AreCyclesOf setting Digit cycles = (width : ℕ) × AreDigitFeeds setting.k width setting.signature.feeds × (setting.k ≡ width * cycles)

-- the held files give a job over these cycles, which computes what its kind does
pub record HoldKind (files : Files) (signature net : Word) (kind : Kind) : Type 0 where
  pub setting : SettingValue
  pub cycles : ℕ
  pub are_cycles : AreCyclesOf setting kind cycles
  pub job : Circuit
  pub held : AreHeld files signature net cycles setting job
  pub computes : ComputesKind setting kind job
