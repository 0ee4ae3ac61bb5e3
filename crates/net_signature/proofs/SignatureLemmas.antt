-- The parts of a signature, one after another.
use Rattle.std.proofs.Common.{ℕ, List, Result, Ok, Err}
use Rattle.outcome.specs.Outcome.{Outcome, ◌>>=◌}
use Rattle.net_signature.specs.Lines.{Line}
use Rattle.net_signature.specs.Statement.{SaysVersion, SaysField}
use Rattle.net_signature.specs.Outcomes.{Next}
use Rattle.net_signature.specs.Body.{BodyValue, begun, Reads}
use Rattle.net_signature.specs.Signature.{SignatureValue, TowerOf, UpperOf, WholeSignature, SignatureOf}
use Rattle.net_signature.specs.Reading.{Fits}
use Rattle.net_signature.specs.declared.version.Version.{Version}
use Rattle.net_signature.specs.declared.fault.SigFault.{SigFault}
use Rattle.net_signature.proofs.ReaderLemmas.{fits_after, fits_first}

abbrev pub same : SignatureValue → SignatureValue
same signature = signature

-- what comes after the towers, after the first tower, after the field and after the version
abbrev pub after_upper : Version → ℕ → List ℕ → List ℕ → List Line → Outcome SigFault SignatureValue
after_upper version modulus tower upper lines = Reads (begun version) lines >>= (λ body. WholeSignature modulus tower upper body)

abbrev pub after_tower : Version → ℕ → ℕ → List ℕ → List Line → Outcome SigFault SignatureValue
after_tower version end modulus tower lines = UpperOf version end lines >>= (λ upper. after_upper version modulus tower upper.0 upper.1)

abbrev pub after_field : Version → ℕ → ℕ → List Line → Outcome SigFault SignatureValue
after_field version end modulus lines = TowerOf end lines >>= (λ tower. after_tower version end modulus tower.0 tower.1)

abbrev pub after_version : Version → ℕ → List Line → Outcome SigFault SignatureValue
after_version version end lines = Next end SaysField lines >>= (λ field. after_field version end field.0 field.1)

module _ (result : Result SignatureValue SigFault) where
  pub version_step : (end : ℕ) (lines rest : List Line) (version : Version) → Next end SaysVersion lines (Ok (version, rest)) → Fits same result (after_version version end rest) → Fits same result (SignatureOf end lines)
  version_step end lines rest version ok fits = fits_after same result (Next end SaysVersion lines) (λ v. after_version v.0 end v.1) (version, rest) ok fits

  pub field_step : (version : Version) (end : ℕ) (lines rest : List Line) (modulus : ℕ) → Next end SaysField lines (Ok (modulus, rest)) → Fits same result (after_field version end modulus rest) → Fits same result (after_version version end lines)
  field_step version end lines rest modulus ok fits = fits_after same result (Next end SaysField lines) (λ field. after_field version end field.0 field.1) (modulus, rest) ok fits

  pub tower_step : (version : Version) (end modulus : ℕ) (lines rest : List Line) (tower : List ℕ) → TowerOf end lines (Ok (tower, rest)) → Fits same result (after_tower version end modulus tower rest) → Fits same result (after_field version end modulus lines)
  tower_step version end modulus lines rest tower ok fits = fits_after same result (TowerOf end lines) (λ t. after_tower version end modulus t.0 t.1) (tower, rest) ok fits

  pub upper_step : (version : Version) (end modulus : ℕ) (tower : List ℕ) (lines rest : List Line) (upper : List ℕ) → UpperOf version end lines (Ok (upper, rest)) → Fits same result (after_upper version modulus tower upper rest) → Fits same result (after_tower version end modulus tower lines)
  upper_step version end modulus tower lines rest upper ok fits = fits_after same result (UpperOf version end lines) (λ u. after_upper version modulus tower u.0 u.1) (upper, rest) ok fits

  pub body_step : (version : Version) (modulus : ℕ) (tower upper : List ℕ) (lines : List Line) (body : BodyValue) → Reads (begun version) lines (Ok body) → Fits same result (WholeSignature modulus tower upper body) → Fits same result (after_upper version modulus tower upper lines)
  body_step version modulus tower upper lines body ok fits = fits_after same result (Reads (begun version) lines) (λ b. WholeSignature modulus tower upper b) body ok fits

module _ (fault : SigFault) where
  pub field_fails : {X : Type 0} (view : X → ℕ × List Line) (version : Version) (end : ℕ) (lines : List Line) → Fits view (Err fault) (Next end SaysField lines) → Fits same (Err fault) (after_version version end lines)
  field_fails view version end lines fits = fits_first view same fault (Next end SaysField lines) (λ field. after_field version end field.0 field.1) fits

  pub tower_fails : {X : Type 0} (view : X → List ℕ × List Line) (version : Version) (end modulus : ℕ) (lines : List Line) → Fits view (Err fault) (TowerOf end lines) → Fits same (Err fault) (after_field version end modulus lines)
  tower_fails view version end modulus lines fits = fits_first view same fault (TowerOf end lines) (λ t. after_tower version end modulus t.0 t.1) fits

  pub upper_fails : {X : Type 0} (view : X → List ℕ × List Line) (version : Version) (end modulus : ℕ) (tower : List ℕ) (lines : List Line) → Fits view (Err fault) (UpperOf version end lines) → Fits same (Err fault) (after_tower version end modulus tower lines)
  upper_fails view version end modulus tower lines fits = fits_first view same fault (UpperOf version end lines) (λ u. after_upper version modulus tower u.0 u.1) fits

  pub body_fails : {X : Type 0} (view : X → BodyValue) (version : Version) (modulus : ℕ) (tower upper : List ℕ) (lines : List Line) → Fits view (Err fault) (Reads (begun version) lines) → Fits same (Err fault) (after_upper version modulus tower upper lines)
  body_fails view version modulus tower upper lines fits = fits_first view same fault (Reads (begun version) lines) (λ b. WholeSignature modulus tower upper b) fits
