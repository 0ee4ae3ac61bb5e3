-- The second of two signatures: its faults are those of a first one under their own name.
use Rattle.std.proofs.Common.{inl, inr, refl, sym, subst, Option, Ok, Err}
use Rattle.outcome.specs.Outcome.{Within}
use Rattle.job_io.specs.Shelf.{Files}
use Rattle.net_signature.specs.Signature.{SignatureValue}
use Rattle.job_words.specs.Operands.{Word}
use Rattle.job_words.specs.Stop.{GivesBy, IsMiss}
use Rattle.job_words.specs.declared.fault.Fault.{Fault}
use Rattle.job_words.specs.declared.fault.Fault.TheVariants.{Signature}
use Rattle.job_words.specs.declared.stop.Stop.{Stop}
use Rattle.job_words.specs.declared.stop.Stop.TheVariants as stops
use Rattle.job_input.specs.Setting.{second_fault, second_stop}
use Rattle.job_input.specs.SettingOf.{SettingWith, SignedValue}
use Rattle.job_input.specs.SettingValue.{SettingValue}
use Rattle.job_input.specs.SignedIn.{SecondOf, SecondSignedIn, SignedIn}

-- a fault of reading and taking its text
module _ (held : Option Files) (file : Word) (missed : Type 0) where
  signed_fault : (fault : Fault) → SignedIn held file (Err fault) → (IsMiss fault → missed) → SecondSignedIn held file (Err (second_fault fault)) × (IsMiss (second_fault fault) → missed)
  signed_fault fault (inl (other, read, same)) miss =
      let P : Fault → Type 0 = λ f. IsMiss f in
      let Q : Fault → Type 0 = λ f. SecondSignedIn held file (Err (second_fault f)) × (IsMiss (second_fault f) → missed) in
      subst Q (sym same) (inl (other, read, refl), λ m. miss (subst P (sym same) m))
  signed_fault fault (inr (text, read, (other, is, same))) miss =
      let Q : Fault → Type 0 = λ f. SecondSignedIn held file (Err (second_fault f)) × (IsMiss (second_fault f) → missed) in
      subst Q (sym same) (inr (text, read, (other, is, refl)), λ m. absurd m)

pub signed_stop : {X : Type 0} (view : X → SignedValue) (held : Option Files) (file : Word) (missed failed : Type 0) (stop : Stop) → GivesBy view (Err stop) (SignedIn held file) missed failed → GivesBy view (Err (second_stop stop)) (SecondSignedIn held file) missed failed
signed_stop view held file missed failed (stops.Refused fault) gives = signed_fault held file missed fault gives.0 gives.1
signed_stop view held file missed failed stops.Outside gives = gives
signed_stop view held file missed failed stops.OutOfMemory gives = tt

-- a fault of its words
word_fault : (signed : SignedValue) (fault : Fault) → Within Signature (SettingWith signed) (Err fault) → SecondOf signed (Err (second_fault fault)) × (IsMiss (second_fault fault) → ⊥)
word_fault signed fault (other, is, same) =
    let Q : Fault → Type 0 = λ f. SecondOf signed (Err (second_fault f)) × (IsMiss (second_fault f) → ⊥) in
    subst Q (sym same) (inl (other, is, refl), λ m. m)

pub word_stop : {X : Type 0} (view : X → SettingValue) (signed : SignedValue) (stop : Stop) → GivesBy view (Err stop) (Within Signature (SettingWith signed)) ⊥ ⊥ → GivesBy {X = SignatureValue} (λ s. s) (Err (second_stop stop)) (SecondOf signed) ⊥ ⊥
word_stop view signed (stops.Refused fault) gives = word_fault signed fault gives.0
word_stop view signed stops.Outside gives = gives
word_stop view signed stops.OutOfMemory gives = tt

-- its words with their bases
pub second_taken : (signed : SignedValue) (setting : SettingValue) → Within Signature (SettingWith signed) (Ok setting) → SecondOf signed (Ok setting.signature)
second_taken signed setting is = (setting, is, refl)
