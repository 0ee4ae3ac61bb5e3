-- What the text of a signature gives a job, or its first fault. Source: this project's own format, docs/FORMATS.md, and for bases
-- Lidl and Niederreiter, Finite Fields, chapter 2.
use Rattle.std.specs.Prelude.{◌≡◌, ◌⊎◌, ℕ, ◌<◌, ◌^◌, nat_lt, Bool, true, List, [], ◌∷◌, length, None, Some, Result, Ok, Err, if◌then◌else◌}
use Rattle.outcome.specs.Outcome.{Outcome, ◌>>=◌, Exactly, Returns, Within}
use Rattle.net_signature.specs.Signature.{Sig, SignatureValue}
use Rattle.net_signature.specs.declared.fault.SigFault.{SigFault}
use Rattle.net_signature.specs.declared.fault.SigFault.TheVariants as text
use Rattle.net_signature.specs.Body.{BlockValue}
use Rattle.net_words.specs.declared.feed.FeedText.{FeedText}
use Rattle.net_words.specs.declared.feed.Source.{Source}
use Rattle.net_words.specs.declared.feed.Source.TheVariants.{Zero, One, Bit}
use Rattle.net_words.specs.declared.word.Role.TheVariants.{Fed}
use Rattle.net_words.specs.declared.word.BasisText.{BasisText}
use Rattle.net_words.specs.declared.word.BasisText.TheVariants.{Poly, Normal, Elements}
use Rattle.net_words.specs.declared.word.WordText.{WordText}
use Rattle.irreducible.specs.Span.{IsIndependent}
use Rattle.gf_basis.specs.Basis.{IsBasisList, first_values}
use Rattle.gf_basis.specs.BasisFault.{IsListFault, IsNormalFault, conjugates_of}
use Rattle.gf_basis.specs.declared.bases.BasisFault.{BasisFault}
use Rattle.gf_basis.specs.declared.bases.BasisFault.TheVariants.{WrongCount, BadElement, Dependent}
use Rattle.job_words.specs.declared.signature_fault.SignatureFault.{SignatureFault}
use Rattle.job_words.specs.declared.signature_fault.SignatureFault.TheVariants as signature
use Rattle.job_input.specs.FieldOf.{FieldValue, FieldOf}
use Rattle.job_input.specs.SettingValue.{SettingValue}

-- the fault that a fault of a signature's text is; out of memory, which no text has, is taken as any other
abbrev pub signature_fault_of : SigFault → SignatureFault
signature_fault_of (text.Syntax line) = signature.Syntax line
signature_fault_of (text.NameTwice line) = signature.NameTwice line
signature_fault_of (text.NoFedWord line) = signature.NoFedWord line
signature_fault_of (text.FeedTwice line) = signature.FeedTwice line
signature_fault_of (text.TwoOutputs line) = signature.TwoOutputs line
signature_fault_of (text.TooManyWords line) = signature.TooManyWords line
signature_fault_of (text.NoOutput None) = signature.NoOutput
signature_fault_of (text.NoOutput (Some model)) = signature.NoOutputInBlock model
signature_fault_of text.OutOfMemory = signature.NoOutput

-- the word is fed, or has as many nets as the field's elements have bits
abbrev pub HasWidth : ℕ → WordText → Type 0
HasWidth k word = (length word.nets ≡ k) ⊎ (word.role ≡ Fed)

abbrev pub HasBits : ℕ → WordText → Outcome SignatureFault (Unit {0})
HasBits k word (Ok u) = HasWidth k word
HasBits k word (Err fault) = (HasWidth k word → ⊥) × (fault ≡ signature.Bits word.line)

-- the conjugates of gamma, which is an element, where they are independent
abbrev pub NormalBasis : ℕ → (ℕ → ℕ → ℕ) → ℕ → Outcome BasisFault (List ℕ)
NormalBasis k product gamma (Ok elements) = (gamma < 2 ^ k) × IsIndependent (conjugates_of k product gamma) × (elements ≡ conjugates_of k product gamma)
NormalBasis k product gamma (Err fault) = IsNormalFault k product gamma fault

-- the elements of the list, where they are k independent elements
abbrev pub ListBasis : ℕ → List ℕ → Outcome BasisFault (List ℕ)
ListBasis k list (Ok elements) = IsBasisList k list × (elements ≡ list)
ListBasis k list (Err fault) = IsListFault k list fault

-- the elements of a basis of the field of 2 to the k elements with this product: `poly` has the powers of 2
abbrev pub BasisOf : ℕ → (ℕ → ℕ → ℕ) → BasisText → Outcome BasisFault (List ℕ)
BasisOf k product Poly = Exactly (first_values k (λ i. 2 ^ i))
BasisOf k product (Normal gamma) = NormalBasis k product gamma
BasisOf k product (Elements list) = ListBasis k list

-- the fault that a fault of the basis in the line of this number is
abbrev pub basis_fault : ℕ → BasisFault → SignatureFault
basis_fault line Dependent = signature.Dependent line
basis_fault line (WrongCount count) = signature.Basis line
basis_fault line (BadElement place) = signature.Basis line

-- the basis of a word: first its number of bits counts
abbrev pub WordBasis : ℕ → (ℕ → ℕ → ℕ) → WordText → Outcome SignatureFault (List ℕ)
WordBasis k product word = do
  bits ← HasBits k word
  Within (basis_fault word.line) (BasisOf k product word.basis)

-- the bases of words: word by word, the first fault decides
abbrev pub BasesOf : ℕ → (ℕ → ℕ → ℕ) → List WordText → Outcome SignatureFault (List (List ℕ))
BasesOf k product [] = Exactly []
BasesOf k product (word ∷ words) = do
  basis ← WordBasis k product word
  bases ← BasesOf k product words
  Exactly (basis ∷ bases)

-- the words of each block have bases too, which are judged in order
abbrev pub BlocksHaveBases : ℕ → (ℕ → ℕ → ℕ) → List BlockValue → Outcome SignatureFault (Unit {0})
BlocksHaveBases k product [] = Exactly tt
BlocksHaveBases k product (block ∷ blocks) = do
  bases ← BasesOf k product block.words
  BlocksHaveBases k product blocks

-- the place of a source is below k
abbrev pub place_within : ℕ → Source → Bool
place_within k Zero = true
place_within k One = true
place_within k (Bit word place) = nat_lt place k

-- each feed is from a place below k, or the first that is not is the fault
abbrev pub feeds_within : ℕ → List FeedText → Result (Unit {0}) SignatureFault
feeds_within k [] = Ok tt
feeds_within k (feed ∷ feeds) = if place_within k feed.source then feeds_within k feeds else Err (signature.Bits feed.line)

-- a signature, and the field that it names
pub record SignedValue : Type 0 where
  pub signature : SignatureValue
  pub field : FieldValue

-- a signature over the field of 2 to the k elements with this product
abbrev pub signed_over : ℕ → (ℕ → ℕ → ℕ) → SignatureValue → SignedValue
signed_over k product signature = record { signature = signature; field = record { k = k; product = product } }

-- the signature of a text: first its lines, then its field
unfoldable pub SignedOf : List ℕ → Outcome SignatureFault SignedValue
SignedOf bytes = do
  said ← Within signature_fault_of (Sig bytes)
  field ← FieldOf said.modulus said.tower said.upper
  Exactly (record { signature = said; field = field })

-- its setting: its words with their bases
abbrev pub SettingWith : SignedValue → Outcome SignatureFault SettingValue
SettingWith signed = do
  bases ← BasesOf signed.field.k signed.field.product signed.signature.words
  blocks ← BlocksHaveBases signed.field.k signed.field.product signed.signature.blocks
  feeds ← Returns (feeds_within signed.field.k signed.signature.feeds)
  Exactly (record { signature = signed.signature; k = signed.field.k; product = signed.field.product; bases = bases })

-- the setting of a signature's text: first its lines, then its field, and then its words with their bases
abbrev pub SettingOf : List ℕ → Outcome SignatureFault SettingValue
SettingOf bytes = do
  signed ← SignedOf bytes
  SettingWith signed
