-- At most one outcome comes of a signature's text.
use Rattle.std.proofs.Common.{◌≡◌, ◌∙◌, ap, sym, refl, ℕ, ◌<◌, ◌^◌, List, [], ◌∷◌, Ok, Err, arith}
use Rattle.outcome.proofs.DeterminedLemmas.{determined_bind, determined_exactly, determined_returns, determined_within}
use Rattle.outcome.specs.Outcome.{Outcome, ◌>>=◌, Exactly, Returns, Within, Determined}
use Rattle.irreducible.specs.Span.{IsIndependent}
use Rattle.net_signature.specs.Body.{BlockValue}
use Rattle.net_signature.specs.Signature.{SignatureValue, Sig}
use Rattle.net_words.specs.declared.word.BasisText.{BasisText}
use Rattle.net_words.specs.declared.word.BasisText.TheVariants.{Poly, Normal, Elements}
use Rattle.net_words.specs.declared.word.WordText.{WordText}
use Rattle.net_signature.proofs.SigDetermined.{text_determined}
use Rattle.gf_basis.specs.Basis.{IsBasisList}
use Rattle.gf_basis.specs.BasisFault.{IsListFault, IsNormalFault, conjugates_of}
use Rattle.gf_basis.specs.declared.bases.BasisFault.{BasisFault}
use Rattle.gf_basis.specs.declared.bases.BasisFault.TheVariants.{WrongCount, BadElement, Dependent}
use Rattle.gf_basis.proofs.BasisFaultLaws.{one_list_fault}
use Rattle.gf_field.proofs.FirstOutsideLemmas.{first_clash}
use Rattle.job_input.specs.FieldOf.{FieldValue, FieldOf}
use Rattle.job_input.specs.SettingOf.{signature_fault_of, HasBits, NormalBasis, ListBasis, BasisOf, basis_fault, WordBasis, BasesOf, BlocksHaveBases, feeds_within, SignedValue, SignedOf, SettingWith, SettingOf}
use Rattle.job_input.specs.SettingValue.{SettingValue}
use Rattle.job_words.specs.declared.signature_fault.SignatureFault.{SignatureFault}
use Rattle.job_input.proofs.SignedLemmas.{made}
use Rattle.job_input.proofs.FieldLemmas.{field_determined}

bits_determined : (k : ℕ) (word : WordText) → Determined (HasBits k word)
bits_determined k word (Ok x) (Ok y) h g = refl
bits_determined k word (Ok x) (Err e) h g = absurd (g.0 h)
bits_determined k word (Err d) (Ok y) h g = absurd (h.0 g)
bits_determined k word (Err d) (Err e) h g = ap Err (h.1 ∙ sym g.1)

module _ (k : ℕ) (product : ℕ → ℕ → ℕ) where
  normal_clash : (gamma : ℕ) (fault : BasisFault) → IsNormalFault k product gamma fault → gamma < 2 ^ k → IsIndependent (conjugates_of k product gamma) → ⊥
  normal_clash gamma (WrongCount count) f inside free = f
  normal_clash gamma (BadElement place) f inside free = let outside = f.1 in omega arith
  normal_clash gamma Dependent f inside free = f.1 free

  one_normal_fault : (gamma : ℕ) (d e : BasisFault) → IsNormalFault k product gamma d → IsNormalFault k product gamma e → d ≡ e
  one_normal_fault gamma (WrongCount count) e h g = absurd h
  one_normal_fault gamma (BadElement p) (WrongCount count) h g = absurd g
  one_normal_fault gamma (BadElement p) (BadElement q) h g = ap (λ place. BadElement place) (h.0 ∙ sym g.0)
  one_normal_fault gamma (BadElement p) Dependent h g = let outside = h.1 in let inside = g.0 in absurd (omega arith)
  one_normal_fault gamma Dependent (WrongCount count) h g = absurd g
  one_normal_fault gamma Dependent (BadElement q) h g = let outside = g.1 in let inside = h.0 in absurd (omega arith)
  one_normal_fault gamma Dependent Dependent h g = refl

  normal_determined : (gamma : ℕ) → Determined (NormalBasis k product gamma)
  normal_determined gamma (Ok x) (Ok y) h g = ap Ok (h.2 ∙ sym g.2)
  normal_determined gamma (Ok x) (Err e) h g = absurd (normal_clash gamma e g h.0 h.1)
  normal_determined gamma (Err d) (Ok y) h g = absurd (normal_clash gamma d h g.0 g.1)
  normal_determined gamma (Err d) (Err e) h g = ap Err (one_normal_fault gamma d e h g)

  list_clash : (list : List ℕ) (fault : BasisFault) → IsListFault k list fault → IsBasisList k list → ⊥
  list_clash list (WrongCount count) f basis = f.0 basis.size
  list_clash list (BadElement place) f basis = first_clash k list place basis.inside f.1
  list_clash list Dependent f basis = f.2 basis.free

  list_determined : (list : List ℕ) → Determined (ListBasis k list)
  list_determined list (Ok x) (Ok y) h g = ap Ok (h.1 ∙ sym g.1)
  list_determined list (Ok x) (Err e) h g = absurd (list_clash list e g h.0)
  list_determined list (Err d) (Ok y) h g = absurd (list_clash list d h g.0)
  list_determined list (Err d) (Err e) h g = ap Err (one_list_fault k list d e h g)

  basis_determined : (basis : BasisText) → Determined (BasisOf k product basis)
  basis_determined Poly = determined_exactly _
  basis_determined (Normal gamma) = normal_determined gamma
  basis_determined (Elements list) = list_determined list

  word_determined : (word : WordText) → Determined (WordBasis k product word)
  word_determined word =
      let basis = Within (basis_fault word.line) (BasisOf k product word.basis) in
      determined_bind (HasBits k word) (λ bits. basis) (bits_determined k word) (λ bits. determined_within (basis_fault word.line) (BasisOf k product word.basis) (basis_determined word.basis))

  pub bases_determined : (words : List WordText) → Determined (BasesOf k product words)
  bases_determined [] = determined_exactly []
  bases_determined (word ∷ words) =
      determined_bind (WordBasis k product word) (λ basis. BasesOf k product words >>= (λ bases. Exactly (basis ∷ bases))) (word_determined word) (λ basis.
      determined_bind (BasesOf k product words) (λ bases. Exactly (basis ∷ bases)) (bases_determined words) (λ bases. determined_exactly (basis ∷ bases)))

  blocks_determined : (blocks : List BlockValue) → Determined (BlocksHaveBases k product blocks)
  blocks_determined [] = determined_exactly tt
  blocks_determined (block ∷ blocks) = determined_bind (BasesOf k product block.words) (λ bases. BlocksHaveBases k product blocks) (bases_determined block.words) (λ bases. blocks_determined blocks)

pub signed_determined : (bytes : List ℕ) → Determined (SignedOf bytes)
unfolding SignedOf
signed_determined bytes =
    determined_bind (Within signature_fault_of (Sig bytes)) (λ said. FieldOf said.modulus said.tower said.upper >>= (λ field. Exactly (signed said field))) (determined_within signature_fault_of (Sig bytes) (text_determined bytes)) (λ said.
    determined_bind (FieldOf said.modulus said.tower said.upper) (λ field. Exactly (signed said field)) (field_determined said.modulus said.tower said.upper) (λ field. determined_exactly (signed said field)))
  where
    signed : SignatureValue → FieldValue → SignedValue
    signed said field = record { signature = said; field = field }

-- the blocks, the feeds, and what is made
module _ (signed : SignedValue) (bases : List (List ℕ)) where
  abbrev setting : SettingValue
  setting = made signed.signature signed.field bases

  abbrev AfterBlocks : Outcome SignatureFault SettingValue
  AfterBlocks = Returns (feeds_within signed.field.k signed.signature.feeds) >>= (λ feeds. Exactly setting)

  abbrev AfterBases : Outcome SignatureFault SettingValue
  AfterBases = BlocksHaveBases signed.field.k signed.field.product signed.signature.blocks >>= (λ blocks. AfterBlocks)

  after_blocks : Determined AfterBlocks
  after_blocks = determined_bind (Returns (feeds_within signed.field.k signed.signature.feeds)) (λ feeds. Exactly setting) (determined_returns (feeds_within signed.field.k signed.signature.feeds)) (λ feeds. determined_exactly setting)

  after_bases : Determined AfterBases
  after_bases = determined_bind (BlocksHaveBases signed.field.k signed.field.product signed.signature.blocks) (λ blocks. AfterBlocks) (blocks_determined signed.field.k signed.field.product signed.signature.blocks) (λ blocks. after_blocks)

pub with_determined : (signed : SignedValue) → Determined (SettingWith signed)
with_determined signed =
    determined_bind (BasesOf signed.field.k signed.field.product signed.signature.words) (AfterBases signed) (bases_determined signed.field.k signed.field.product signed.signature.words) (after_bases signed)

pub setting_determined : (bytes : List ℕ) → Determined (SettingOf bytes)
setting_determined bytes = determined_bind (SignedOf bytes) SettingWith (signed_determined bytes) with_determined
