-- The command `make`: a netlist of a kind that is made for a signature. Sources: of each kind's netlist, those of its maker.
use Rattle.std.specs.Prelude.{◌≡◌, ℕ, ◌*◌, ◌/◌, ◌<◌, ◌≤◌, ◌^◌, List, [], ◌∷◌, length, Ok, Err}
use Rattle.lists.specs.Limits.{most_bytes}
use Rattle.outcome.specs.Outcome.{Outcome, ◌>>=◌, Exactly}
use Rattle.irreducible.specs.Span.{IsIndependent}
use Rattle.gf_basis.specs.BasisFault.{conjugates_of}
use Rattle.gf_field.specs.Bit.{bit_mul}
use Rattle.gf_field.specs.Quotient.{product}
use Rattle.gf_tower.specs.FieldName.{IsFieldModulus, IsFieldTower}
use Rattle.gf_tower.specs.Tower.{tower_polynomial}
use Rattle.net_core.specs.NetList.{NetList}
use Rattle.net_signature.specs.Signature.{SignatureValue}
use Rattle.net_words.specs.declared.word.BasisText.{BasisText}
use Rattle.net_words.specs.declared.word.BasisText.TheVariants as basis
use Rattle.net_words.specs.declared.word.WordText.{WordText}
use Rattle.net_write.specs.Written.{written}
use Rattle.make_laws.specs.Indeterminate.{x_of}
use Rattle.mult_gen.specs.Form.{HasAdderForm, HasPolyForm, made_adder, made_mastrovito, made_squarer}
use Rattle.mult_montgomery.specs.Form.{HasMontgomeryForm, made_montgomery}
use Rattle.mult_composite.specs.Form.{HasCompositeForm, made_composite}
use Rattle.mult_normal.specs.NormalForm.{HasNormalForm}
use Rattle.mult_normal.specs.NormalNet.{normal_net}
use Rattle.mult_digit.specs.DigitForm.{HasDigitForm}
use Rattle.mult_digit.specs.IsDigitNet.{IsDigitNet}
use Rattle.job_words.specs.declared.kind.Kind.{Kind}
use Rattle.job_words.specs.declared.kind.Kind.TheVariants.{Mastrovito, Montgomery, Composite, Normal, Adder, Squarer, Digit}
use Rattle.job_words.specs.declared.fault.Fault.{Fault}
use Rattle.job_words.specs.declared.fault.Fault.TheVariants.{Form}
use Rattle.job_input.specs.SettingValue.{SettingValue}
use Rattle.answer_core.specs.Reply.{Reply}

-- the field is one of polynomials over 0 and 1, and the signature has the form
pub record IsOverBase (HasForm : SignatureValue → Type 0) (setting : SettingValue) : Type 0 where
  pub modulus : IsFieldModulus setting.k setting.signature.modulus
  pub no_tower : setting.signature.tower ≡ []
  pub form : HasForm setting.signature

-- the degree of the field that a tower of one step stands on
abbrev pub base_degree : SettingValue → ℕ
base_degree setting = setting.k / length setting.signature.tower

-- the field is a tower of one step, and the signature has the form
pub record IsOverTower (HasForm : SignatureValue → Type 0) (setting : SettingValue) : Type 0 where
  pub whole : base_degree setting * length setting.signature.tower ≡ setting.k
  pub base : IsFieldModulus (base_degree setting) setting.signature.modulus
  pub tower : IsFieldTower (base_degree setting) setting.signature.modulus setting.signature.tower
  pub one_step : setting.signature.upper ≡ []
  pub form : HasForm setting.signature

-- the element of a normal basis, and that of the first word's
abbrev pub element_of : BasisText → ℕ
element_of basis.Poly = 0
element_of (basis.Normal gamma) = gamma
element_of (basis.Elements list) = 0

abbrev pub first_element : List WordText → ℕ
first_element [] = 0
first_element (word ∷ words) = element_of word.basis

-- the normal basis of the first word
abbrev pub first_conjugates : SettingValue → List ℕ
first_conjugates setting = conjugates_of setting.k setting.product (first_element setting.signature.words)

-- the words are in a normal basis, and the signature has the form
pub record IsInNormalBasis (HasForm : SignatureValue → Type 0) (setting : SettingValue) : Type 0 where
  pub element : first_element setting.signature.words < 2 ^ setting.k
  pub independent : IsIndependent (first_conjugates setting)
  pub form : HasForm setting.signature

-- the setting has the form of a kind
abbrev pub HasFormOf : SettingValue → Kind → Type 0
HasFormOf setting Mastrovito = IsOverBase (HasPolyForm 2) setting
HasFormOf setting Montgomery = IsOverBase HasMontgomeryForm setting
HasFormOf setting Composite = IsOverTower HasCompositeForm setting
HasFormOf setting Normal = IsInNormalBasis HasNormalForm setting
HasFormOf setting Adder = HasAdderForm setting.signature
HasFormOf setting Squarer = IsOverBase (HasPolyForm 1) setting
HasFormOf setting Digit = IsOverBase (HasDigitForm setting.k) setting

-- the net list is that of a kind over a setting of its form
abbrev pub IsMade : SettingValue → Kind → NetList → Type 0
IsMade setting Mastrovito net = net ≡ made_mastrovito setting.k setting.signature.modulus setting.signature.words
IsMade setting Montgomery net = net ≡ made_montgomery setting.k setting.signature.modulus setting.signature.words
IsMade setting Composite net = net ≡ made_composite (base_degree setting) setting.signature.modulus (length setting.signature.tower) (tower_polynomial (base_degree setting) setting.signature.tower) setting.signature.words
IsMade setting Normal net = net ≡ normal_net setting.k setting.product (first_conjugates setting) setting.signature.words
IsMade setting Adder net = net ≡ made_adder setting.k setting.signature.words
IsMade setting Squarer net = net ≡ made_squarer setting.k setting.signature.modulus setting.signature.words
IsMade setting Digit net = IsDigitNet setting.k (product 1 setting.k bit_mul setting.signature.modulus) (x_of setting.k setting.signature.modulus) setting.signature net

-- this net list, or fault 43 where the form is not met
abbrev pub MadeOf : SettingValue → Kind → Outcome Fault NetList
MadeOf setting kind (Ok net) = HasFormOf setting kind × IsMade setting kind net
MadeOf setting kind (Err fault) = (fault ≡ Form kind) × (HasFormOf setting kind → ⊥)

-- its answer, after its signature was taken: the net list in BLIF
abbrev pub MakeAnswer : SettingValue → Kind → Outcome Fault Reply
MakeAnswer setting kind = do
  net ← MadeOf setting kind
  Exactly (record { status = 0; text = written net })

-- the net list's text in BLIF is no longer than a file may be
abbrev pub FitsFile : NetList → Type 0
FitsFile net = length (written net) ≤ most_bytes
