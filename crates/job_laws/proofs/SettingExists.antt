-- Texts and files have signatures with their fields or faults, and these have settings or faults: widths, elements and independence
-- are decided word by word.
use Rattle.std.proofs.Common.{◌≡◌, ap, refl, inl, inr, ℕ, ◌-◌, ◌^◌, min, List, [], ◌∷◌, length, Option, Ok, Err, arith}
use Rattle.std.proofs.lemmas.Bool.{cases_lt}
use Rattle.outcome.specs.Outcome.{◌>>=◌, Exactly, Returns, Within}
use Rattle.outcome.proofs.SomeLemmas.{some_bind, some_exactly, some_returns, some_within}
use Rattle.job_io.specs.Shelf.{Files}
use Rattle.gf_basis.specs.Basis.{first_values}
use Rattle.gf_basis.specs.BasisFault.{conjugates_of}
use Rattle.gf_basis.specs.declared.bases.BasisFault.TheVariants.{WrongCount, BadElement, Dependent}
use Rattle.net_words.specs.declared.word.BasisText.{BasisText}
use Rattle.net_words.specs.declared.word.BasisText.TheVariants.{Poly, Normal, Elements}
use Rattle.net_words.specs.declared.word.Role.{Role}
use Rattle.net_words.specs.declared.word.Role.TheVariants.{Input, State, Fed, Output}
use Rattle.net_words.specs.declared.word.WordText.{WordText}
use Rattle.net_signature.specs.Body.{BlockValue}
use Rattle.net_signature.specs.Signature.{Sig, SignatureValue}
use Rattle.net_signature.proofs.FeedLemmas.{no_upper}
use Rattle.job_words.specs.Operands.{Word}
use Rattle.job_words.specs.declared.fault.Fault.TheVariants.{File, Signature, SecondSignature}
use Rattle.job_words.specs.declared.signature_fault.SignatureFault.TheVariants as signature
use Rattle.job_input.specs.FieldOf.{FieldOf, FieldValue}
use Rattle.job_input.specs.File.{Read}
use Rattle.job_input.specs.SettingOf.{basis_fault, feeds_within, signature_fault_of, BasesOf, BasisOf, BlocksHaveBases, HasBits, ListBasis, NormalBasis, SettingOf, SettingWith, SignedOf, SignedValue, WordBasis}
use Rattle.job_input.specs.SettingValue.{SettingValue}
use Rattle.job_input.specs.SignedIn.{SecondIn, SecondOf, SecondSignedIn, SignedIn}
use Rattle.job_input.proofs.SettingSoundLemmas.{setting_sound}
use Rattle.reader_laws.proofs.DecidedLemmas.{IsDecided, even_decided, one_decided}
use Rattle.reader_laws.proofs.NetlistExists.{some_read}
use Rattle.reader_laws.proofs.SignatureExists.{some_text}
use Rattle.job_laws.specs.HasOutcome.{HasOutcome}
use Rattle.job_laws.specs.Held.{HeldSettingsAreSound}
use Rattle.job_laws.proofs.FieldDecided.{elements_or, independent_decided}
use Rattle.job_laws.proofs.FieldExists.{some_field}

-- ---- signatures with their fields

empty : (list : List ℕ) → length list ≡ 0 → list ≡ []
empty [] none = refl
empty (x ∷ xs) none = absurd (omega (arith, none))

-- a second step stands only over a first one
only_over : (text : List ℕ) (said : SignatureValue) → Sig text (Ok said) → said.tower ≡ [] → said.upper ≡ []
only_over text said says none = empty said.upper (no_upper text said says (ap (λ (list : List ℕ). length list) none))

with_field : SignatureValue → FieldValue → SignedValue
with_field said field = record { signature = said; field = field }

pub some_signed : (text : List ℕ) → HasOutcome (SignedOf text)
unfolding SignedOf with_field
some_signed text =
    some_bind (Within signature_fault_of (Sig text)) (λ said. FieldOf said.modulus said.tower said.upper >>= (λ field. Exactly (with_field said field))) (some_within signature_fault_of (Sig text) (some_text text)) (λ said says.
    some_bind (FieldOf said.modulus said.tower said.upper) (λ field. Exactly (with_field said field)) (some_field said.modulus said.tower said.upper (only_over text said says)) (λ field is. some_exactly (with_field said field)))

pub some_signed_in : (held : Option Files) (file : Word) → HasOutcome (SignedIn held file)
some_signed_in held file =
    some_bind (Within File (Read held file)) (λ text. Within Signature (SignedOf text)) (some_within File (Read held file) (some_read held file)) (λ text read. some_within Signature (SignedOf text) (some_signed text))

pub some_second_signed : (held : Option Files) (file : Word) → HasOutcome (SecondSignedIn held file)
some_second_signed held file =
    some_bind (Within File (Read held file)) (λ text. Within SecondSignature (SignedOf text)) (some_within File (Read held file) (some_read held file)) (λ text read. some_within SecondSignature (SignedOf text) (some_signed text))

-- ---- the basis of a word

fed_decided : (role : Role) → IsDecided (role ≡ Fed)
fed_decided Input = inr (λ same. absurd (cc))
fed_decided State = inr (λ same. absurd (cc))
fed_decided Fed = inl refl
fed_decided Output = inr (λ same. absurd (cc))

module _ (k : ℕ) (product : ℕ → ℕ → ℕ) where
  some_bits : (word : WordText) → HasOutcome (HasBits k word)
  some_bits word = elim (one_decided (even_decided (length word.nets) k) (fed_decided word.role)) [ inl wide ↦ (Ok tt, wide) | inr other ↦ (Err (signature.Bits word.line), (other, refl)) ]

  some_normal : (gamma : ℕ) → HasOutcome (NormalBasis k product gamma)
  some_normal gamma =
      elim (cases_lt gamma (2 ^ k)) [
        | inl small ↦ elim (independent_decided (conjugates_of k product gamma)) [ inl free ↦ (Ok (conjugates_of k product gamma), (small, free, refl)) | inr bound ↦ (Err Dependent, (small, bound)) ]
        | inr large ↦ (Err (BadElement 0), (refl, large))
      ]

  some_elements : (list : List ℕ) → length list ≡ k → HasOutcome (ListBasis k list)
  some_elements list long =
      elim (elements_or k list) [
        | inl all ↦ elim (independent_decided list) [ inl free ↦ (Ok list, (record { size = long; inside = all; free = free }, refl)) | inr bound ↦ (Err Dependent, (long, all, bound)) ]
        | inr found ↦ (Err (BadElement found.0), (long, found.1))
      ]

  some_list : (list : List ℕ) → HasOutcome (ListBasis k list)
  some_list list = elim (even_decided (length list) k) [ inl long ↦ some_elements list long | inr other ↦ (Err (WrongCount (min (length list) (2 ^ 32 - 1))), (other, refl)) ]

  some_basis : (basis : BasisText) → HasOutcome (BasisOf k product basis)
  some_basis Poly = some_exactly (first_values k (λ i. 2 ^ i))
  some_basis (Normal gamma) = some_normal gamma
  some_basis (Elements list) = some_list list

  some_word_basis : (word : WordText) → HasOutcome (WordBasis k product word)
  some_word_basis word =
      some_bind (HasBits k word) (λ bits. Within (basis_fault word.line) (BasisOf k product word.basis)) (some_bits word) (λ bits wide. some_within (basis_fault word.line) (BasisOf k product word.basis) (some_basis word.basis))

  -- ---- the bases of words

  some_bases : (words : List WordText) → HasOutcome (BasesOf k product words)
  some_bases [] = some_exactly []
  some_bases (word ∷ words) =
      some_bind (WordBasis k product word) (λ basis. BasesOf k product words >>= (λ bases. Exactly (basis ∷ bases))) (some_word_basis word) (λ basis is.
      some_bind (BasesOf k product words) (λ bases. Exactly (basis ∷ bases)) (some_bases words) (λ bases are. some_exactly (basis ∷ bases)))

  some_block_bases : (blocks : List BlockValue) → HasOutcome (BlocksHaveBases k product blocks)
  some_block_bases [] = some_exactly tt
  some_block_bases (block ∷ blocks) = some_bind (BasesOf k product block.words) (λ bases. BlocksHaveBases k product blocks) (some_bases block.words) (λ bases are. some_block_bases blocks)

-- ---- settings

with_bases : SignedValue → List (List ℕ) → SettingValue
with_bases signed bases = record { signature = signed.signature; k = signed.field.k; product = signed.field.product; bases = bases }

pub some_setting : (signed : SignedValue) → HasOutcome (SettingWith signed)
unfolding with_bases
some_setting signed =
    some_bind (BasesOf signed.field.k signed.field.product signed.signature.words)
    (λ bases. BlocksHaveBases signed.field.k signed.field.product signed.signature.blocks >>= (λ blocks. Returns (feeds_within signed.field.k signed.signature.feeds) >>= (λ feeds. Exactly (with_bases signed bases))))
    (some_bases signed.field.k signed.field.product signed.signature.words) (λ bases are.
    some_bind (BlocksHaveBases signed.field.k signed.field.product signed.signature.blocks) (λ blocks. Returns (feeds_within signed.field.k signed.signature.feeds) >>= (λ feeds. Exactly (with_bases signed bases)))
    (some_block_bases signed.field.k signed.field.product signed.signature.blocks) (λ blocks have.
    some_bind (Returns (feeds_within signed.field.k signed.signature.feeds)) (λ feeds. Exactly (with_bases signed bases)) (some_returns (feeds_within signed.field.k signed.signature.feeds)) (λ feeds within. some_exactly (with_bases signed bases))))

pub some_setting_of : (text : List ℕ) → HasOutcome (SettingOf text)
some_setting_of text = some_bind (SignedOf text) SettingWith (some_signed text) (λ signed is. some_setting signed)

second_of : (signed : SignedValue) → HasOutcome (SecondOf signed)
second_of signed =
    some_bind (Within SecondSignature (SettingWith signed)) (λ setting. Exactly setting.signature) (some_within SecondSignature (SettingWith signed) (some_setting signed)) (λ setting is. some_exactly setting.signature)

pub some_second : (held : Option Files) (file : Word) → HasOutcome (SecondIn held file)
some_second held file = some_bind (SecondSignedIn held file) SecondOf (some_second_signed held file) (λ signed is. second_of signed)

-- the setting of a file is sound
pub held_sound : HeldSettingsAreSound
held_sound held file signed setting is has = setting_sound is.0 setting (signed, is.2, has)
