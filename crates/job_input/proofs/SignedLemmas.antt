-- The steps of a signature's reading, one after another, and of its setting's making.
use Rattle.std.proofs.Common.{◌≡◌, inl, inr, refl, subst, sym, List, ℕ, None, Some, Result, Ok, Err}
use Rattle.outcome.specs.Outcome.{Within}
use Rattle.net_signature.specs.Signature.{SignatureValue, Sig}
use Rattle.net_signature.specs.WordNames.{HaveNames}
use Rattle.net_signature.specs.Reading.{Fits}
use Rattle.net_signature.specs.declared.fault.SigFault.{SigFault}
use Rattle.net_signature.specs.declared.fault.SigFault.TheVariants as text
use Rattle.net_signature.proofs.NamesLemmas.{sig_names}
use Rattle.gf_tower.specs.AnyField.{IsMadeOf}
use Rattle.gf_tower.specs.FieldFault.{IsFieldFault}
use Rattle.gf_tower.specs.declared.any_field.AnyField.{AnyField}
use Rattle.gf_tower.specs.declared.any_field.AnyField.TheVariants.{Base, Tower, Upper}
use Rattle.gf_tower.specs.declared.any_field.FieldFault.{FieldFault}
use Rattle.job_words.specs.declared.fault.Fault.TheVariants.{Signature}
use Rattle.job_words.specs.declared.signature_fault.SignatureFault.{SignatureFault}
use Rattle.job_words.specs.declared.stop.Stop.TheVariants.{Refused}
use Rattle.job_words.specs.Stop.{GivesBy}
use Rattle.job_input.specs.FieldOf.{FieldValue, field_fault, FieldOf}
use Rattle.job_input.specs.SettingOf.{signature_fault_of, feeds_within, BasesOf, SignedValue, SignedOf, SettingOf, SettingWith}
use Rattle.job_input.specs.SettingValue.{SettingValue}
use Rattle.job_input.specs.Setting.{signed_value, text_stop, IsNamedBy}

-- a signature whose field is named
pub signed_is : (bytes : List ℕ) (said : SignatureValue) (field : FieldValue) → Sig bytes (Ok said) → FieldOf said.modulus said.tower said.upper (Ok field) → SignedOf bytes (Ok (record { signature = said; field = field }))
unfolding SignedOf
signed_is bytes said field text_ok field_ok = (said, text_ok, (field, field_ok, refl))

-- the field that is made of the numbers of the signature is the one that it names
pub named_by : (signature : SignatureValue) (field : AnyField) → IsMadeOf field signature.modulus signature.tower signature.upper → IsNamedBy signature field
named_by signature (Base field) made = record { modulus = made.0; tower = sym made.1; upper = sym made.2 }
named_by signature (Tower field) made = record { modulus = made.0; tower = made.1; upper = sym made.2 }
named_by signature (Upper field) made = record { modulus = made.0; tower = made.1; upper = made.2 }

-- a fault of its field is its own
pub field_fails : (bytes : List ℕ) (said : SignatureValue) → Sig bytes (Ok said) → (fault : FieldFault) → IsFieldFault said.modulus said.tower said.upper fault → GivesBy signed_value (Err (Refused (Signature (field_fault fault)))) (Within Signature (SignedOf bytes)) ⊥ ⊥
unfolding SignedOf
field_fails bytes said text_ok fault fails = ((field_fault fault, inr (said, text_ok, inl (fault, fails, refl)), refl), λ miss. miss)

-- and so is a fault of its text
pub text_fails : (bytes : List ℕ) (fault : SigFault) → Fits {X = SignatureValue} (λ said. said) (Err fault) (Sig bytes) → GivesBy signed_value (Err (text_stop fault)) (Within Signature (SignedOf bytes)) ⊥ ⊥
unfolding SignedOf
text_fails bytes (text.Syntax line) fits = ((signature_fault_of (text.Syntax line), inl (text.Syntax line, fits, refl), refl), λ miss. miss)
text_fails bytes (text.NameTwice line) fits = ((signature_fault_of (text.NameTwice line), inl (text.NameTwice line, fits, refl), refl), λ miss. miss)
text_fails bytes (text.NoFedWord line) fits = ((signature_fault_of (text.NoFedWord line), inl (text.NoFedWord line, fits, refl), refl), λ miss. miss)
text_fails bytes (text.FeedTwice line) fits = ((signature_fault_of (text.FeedTwice line), inl (text.FeedTwice line, fits, refl), refl), λ miss. miss)
text_fails bytes (text.TwoOutputs line) fits = ((signature_fault_of (text.TwoOutputs line), inl (text.TwoOutputs line, fits, refl), refl), λ miss. miss)
text_fails bytes (text.TooManyWords line) fits = ((signature_fault_of (text.TooManyWords line), inl (text.TooManyWords line, fits, refl), refl), λ miss. miss)
text_fails bytes (text.NoOutput None) fits = ((signature_fault_of (text.NoOutput None), inl (text.NoOutput None, fits, refl), refl), λ miss. miss)
text_fails bytes (text.NoOutput (Some model)) fits = ((signature_fault_of (text.NoOutput (Some model)), inl (text.NoOutput (Some model), fits, refl), refl), λ miss. miss)
text_fails bytes text.OutOfMemory fits = tt

-- ---- what a setting is made of

-- the setting of this signature, field and bases
abbrev pub made : SignatureValue → FieldValue → List (List ℕ) → SettingValue
made said field bases = record { signature = said; k = field.k; product = field.product; bases = bases }

-- its parts, one after another
pub record Parts (bytes : List ℕ) (value : SettingValue) : Type 0 where
  pub said : SignatureValue
  pub says : Sig bytes (Ok said)
  pub field : FieldValue
  pub named : FieldOf said.modulus said.tower said.upper (Ok field)
  pub bases : List (List ℕ)
  pub have_bases : BasesOf field.k field.product said.words (Ok bases)
  pub within : ◌≡◌ {A = Result (Unit {0}) SignatureFault} (Ok tt) (feeds_within field.k said.feeds)
  pub value_is : value ≡ made said field bases

pub setting_parts : (bytes : List ℕ) (value : SettingValue) → SettingOf bytes (Ok value) → Parts bytes value
unfolding SignedOf
setting_parts bytes value (signed, (said, says, (field, named, signed_is)), with_bases) =
    let P : SignedValue → Type 0 = λ s. SettingWith s (Ok value) in
    by says named (subst P signed_is with_bases)
  where
    by : {said : SignatureValue} {field : FieldValue} → Sig bytes (Ok said) → FieldOf said.modulus said.tower said.upper (Ok field) → SettingWith (record { signature = said; field = field }) (Ok value) → Parts bytes value
    by {said} {field} says named (bases, have_bases, (blocks, judged, (feeds, within, is))) =
        record { said = said; says = says; field = field; named = named; bases = bases; have_bases = have_bases; within = within; value_is = is }

-- the words of a setting have names
pub setting_names : (text : List ℕ) (setting : SettingValue) → SettingOf text (Ok setting) → HaveNames setting.signature.words
setting_names text setting ok =
    let parts = setting_parts text setting ok in
    let P : SettingValue → Type 0 = λ s. HaveNames s.signature.words in
    subst P (sym parts.value_is) (sig_names text parts.said parts.says)
