-- What a `Setting` is made of, and the stops of its making. Source: this project's own.
use Rattle.std.specs.Prelude.{◌≡◌, ◌≢◌, ℕ, ◌*◌, ◌≤◌, List, [], filter, length, map, Result, Ok}
use Rattle.lists.specs.Lists.{Has}
use Rattle.net_words.specs.Binding.{AreWords, BoundNet}
use Rattle.net_words.specs.Feeds.{AreFeeds}
use Rattle.net_words.specs.Roles.{is_output, input_count}
use Rattle.net_words.specs.declared.bound.BoundWord.{BoundWord}
use Rattle.net_words.specs.declared.word.Role.{Role}
use Rattle.net_words.specs.declared.word.Role.TheVariants.{Fed}
use Rattle.net_words.specs.declared.word.WordText.{WordText}
use Rattle.net_signature.specs.Body.{BlockValue}
use Rattle.net_signature.specs.Signature.{SignatureValue}
use Rattle.net_signature.specs.WordNames.{HaveNames}
use Rattle.net_signature.specs.declared.fault.SigFault.{SigFault}
use Rattle.net_signature.specs.declared.fault.SigFault.TheVariants.{Syntax, NameTwice, NoFedWord, FeedTwice, TwoOutputs, TooManyWords, NoOutput, OutOfMemory}
use Rattle.gf_field.specs.Bit.{bit_mul}
use Rattle.gf_field.specs.Quotient.{product as quotient_product}
use Rattle.gf_field.specs.Ring2k.{degree_of, modulus_of}
use Rattle.irreducible.specs.Proved.{ring_of}
use Rattle.gf_tower.specs.Tower.{tower_polynomial}
use Rattle.gf_tower.specs.TowerParts.{base_of, coefficients_of, size_of}
use Rattle.gf_tower.specs.declared.any_field.AnyField.{AnyField}
use Rattle.gf_tower.specs.declared.any_field.AnyField.TheVariants.{Base, Tower, Upper}
use Rattle.gf_basis.specs.BasisParts.{elements_of, IsBasisOver}
use Rattle.gf_basis.specs.declared.bases.Basis.{Basis}
use Rattle.job_input.specs.declared.setting.Setting.{Setting}
use Rattle.job_input.specs.declared.signed.Signed.{Signed}
use Rattle.job_input.specs.FieldOf.{FieldValue}
use Rattle.job_words.specs.declared.fault.Fault.{Fault}
use Rattle.job_words.specs.declared.fault.Fault.TheVariants.{Signature, SecondSignature}
use Rattle.job_words.specs.declared.signature_fault.SignatureFault.{SignatureFault}
use Rattle.job_words.specs.declared.stop.Stop.{Stop}
use Rattle.job_words.specs.declared.stop.Stop.TheVariants as stops
use Rattle.job_input.specs.SettingOf.{feeds_within, signature_fault_of, SignedValue}
use Rattle.job_input.specs.SettingValue.{SettingValue}

-- how many bits an element of the field has
abbrev pub any_degree : AnyField → ℕ
any_degree (Base field) = degree_of (ring_of field)
any_degree (Tower field) = degree_of (ring_of (base_of (ring_of field))) * size_of (ring_of field)
any_degree (Upper field) =
    let lower = ring_of (base_of (ring_of field)) in
    degree_of (ring_of (base_of lower)) * size_of lower * size_of (ring_of field)

-- the product of the field
abbrev pub any_product : AnyField → ℕ → ℕ → ℕ
any_product (Base field) = quotient_product 1 (degree_of (ring_of field)) bit_mul (modulus_of (ring_of field))
any_product (Tower field) =
    let base = ring_of (base_of (ring_of field)) in
    quotient_product (degree_of base) (size_of (ring_of field)) (quotient_product 1 (degree_of base) bit_mul (modulus_of base)) (tower_polynomial (degree_of base) (coefficients_of (ring_of field)))
any_product (Upper field) =
    let lower = ring_of (base_of (ring_of field)) in
    let base = ring_of (base_of lower) in
    let degree = degree_of base * size_of lower in
    let product = quotient_product (degree_of base) (size_of lower) (quotient_product 1 (degree_of base) bit_mul (modulus_of base)) (tower_polynomial (degree_of base) (coefficients_of lower)) in
    quotient_product degree (size_of (ring_of field)) product (tower_polynomial degree (coefficients_of (ring_of field)))

-- the elements of bases
abbrev pub elements_of_each : List Basis → List (List ℕ)
elements_of_each bases = map elements_of bases

-- the field by its degree and its product
abbrev pub field_value : AnyField → FieldValue
field_value field = record { k = any_degree field; product = any_product field }

-- its modulus, and the coefficients of its first and of its second tower step, none of a step that it has not
abbrev pub any_modulus : AnyField → ℕ
any_modulus (Base field) = modulus_of (ring_of field)
any_modulus (Tower field) = modulus_of (ring_of (base_of (ring_of field)))
any_modulus (Upper field) = modulus_of (ring_of (base_of (ring_of (base_of (ring_of field)))))

abbrev pub any_tower : AnyField → List ℕ
any_tower (Base field) = []
any_tower (Tower field) = coefficients_of (ring_of field)
any_tower (Upper field) = coefficients_of (ring_of (base_of (ring_of field)))

abbrev pub any_upper : AnyField → List ℕ
any_upper (Base field) = []
any_upper (Tower field) = []
any_upper (Upper field) = coefficients_of (ring_of field)

-- the field is the one that the signature names
pub record IsNamedBy (signature : SignatureValue) (field : AnyField) : Type 0 where
  pub modulus : any_modulus field ≡ signature.modulus
  pub tower : any_tower field ≡ signature.tower
  pub upper : any_upper field ≡ signature.upper

-- a signature with its field
abbrev pub signed_value : Signed → SignedValue
signed_value signed = record { signature = signed.signature; field = field_value signed.field }

-- a setting over a field by its signature, the field and the elements of its bases
abbrev pub setting_value : ℕ → (ℕ → ℕ → ℕ) → Setting → SettingValue
setting_value k product setting = record { signature = setting.signature; k = k; product = product; bases = elements_of_each setting.bases.items }

-- a setting over this field
abbrev pub setting_in : AnyField → Setting → SettingValue
setting_in field setting = setting_value (any_degree field) (any_product field) setting

-- each basis is one of the field of 2 to the k elements with this product
abbrev pub AreBasesOver : ℕ → (ℕ → ℕ → ℕ) → List Basis → Type 0
AreBasesOver k product bases = (basis : Basis) → Has bases basis → IsBasisOver k product basis

-- why no output comes after a fault of a signature's text
abbrev pub text_stop : SigFault → Stop
text_stop (Syntax line) = stops.Refused (Signature (signature_fault_of (Syntax line)))
text_stop (NameTwice line) = stops.Refused (Signature (signature_fault_of (NameTwice line)))
text_stop (NoFedWord line) = stops.Refused (Signature (signature_fault_of (NoFedWord line)))
text_stop (FeedTwice line) = stops.Refused (Signature (signature_fault_of (FeedTwice line)))
text_stop (TwoOutputs line) = stops.Refused (Signature (signature_fault_of (TwoOutputs line)))
text_stop (TooManyWords line) = stops.Refused (Signature (signature_fault_of (TooManyWords line)))
text_stop (NoOutput block) = stops.Refused (Signature (signature_fault_of (NoOutput block)))
text_stop OutOfMemory = stops.OutOfMemory

-- the fault of a first signature as one of a second
abbrev pub second_fault : Fault → Fault
second_fault (Signature fault) = SecondSignature fault
second_fault fault = fault

-- why no output comes after a second signature
abbrev pub second_stop : Stop → Stop
second_stop (stops.Refused fault) = stops.Refused (second_fault fault)
second_stop stops.Outside = stops.Outside
second_stop stops.OutOfMemory = stops.OutOfMemory

-- what each word is to the netlist
abbrev pub roles_of : List WordText → List Role
roles_of words = map (λ word. word.role) words

-- one word of a block is the output, at most eight are others, they have names, no two the same, and none is fed
pub record AreBlockWords (words : List WordText) : Type 0 where
  pub output : length (filter is_output words) ≡ 1
  pub others : input_count words ≤ 8
  pub names : HaveNames words
  pub unfed : (word : WordText) → Has words word → word.role ≢ Fed

-- What is known of each signature: one word is the output, at most eight are others, they have names, no two the same, and
-- the feeds can be bound where their places are below k; and so it is with the words of each block, none of which is fed.
pub record AreSaid (signature : SignatureValue) : Type 0 where
  pub output : length (filter is_output signature.words) ≡ 1
  pub others : input_count signature.words ≤ 8
  pub names : HaveNames signature.words
  pub feeds : (k : ℕ) → ◌≡◌ {A = Result (Unit {0}) SignatureFault} (Ok tt) (feeds_within k signature.feeds) → AreFeeds k (roles_of signature.words) signature.feeds
  pub blocks : (block : BlockValue) → Has signature.blocks block → AreBlockWords block.words

-- the words of a block can be bound, none of them is fed, and they have names, no two the same
pub record CanBindBlock (k : ℕ) (words : List WordText) : Type 0 where
  pub words_are : AreWords k words
  pub unfed : (word : WordText) → Has words word → word.role ≢ Fed
  pub names : HaveNames words

-- what is known of each setting over a field: its bases are over the field, one for each word; its words have k nets each
-- or are fed, one is the output, and at most eight are others; they have names, no two the same; its feeds can be bound; and so can the
-- words of each block
pub record IsReady (k : ℕ) (product : ℕ → ℕ → ℕ) (setting : Setting) : Type 0 where
  pub over : AreBasesOver k product setting.bases.items
  pub long : length setting.bases.items ≡ length setting.signature.words
  pub words : AreWords k setting.signature.words
  pub names : HaveNames setting.signature.words
  pub feeds : AreFeeds k (roles_of setting.signature.words) setting.signature.feeds
  pub blocks : (block : BlockValue) → Has setting.signature.blocks block → CanBindBlock k block.words

-- the bound words are as many as these, and have their roles
abbrev pub HaveRoles : List WordText → List BoundWord → Type 0
HaveRoles words bound = map (λ word. word.role) bound ≡ map (λ word. word.role) words

-- what is known of each circuit that is taken for a setting: its words have k bits each, the setting's roles, and a basis each
pub record IsTakenFor (k : ℕ) (setting : Setting) (circuit : BoundNet) : Type 0 where
  pub bits : circuit.binding.k ≡ k
  pub roles : HaveRoles setting.signature.words circuit.binding.words
  pub long : length setting.bases.items ≡ length circuit.binding.words
