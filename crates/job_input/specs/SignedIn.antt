-- What comes of the file of a signature, and of that of a second one. Source: this project's own.
use Rattle.std.specs.Prelude.{ℕ, Option}
use Rattle.outcome.specs.Outcome.{Outcome, ◌>>=◌, Exactly, Within}
use Rattle.job_io.specs.Shelf.{Files}
use Rattle.job_words.specs.declared.fault.Fault.{Fault}
use Rattle.job_words.specs.declared.fault.Fault.TheVariants.{File, Signature, SecondSignature}
use Rattle.job_words.specs.Operands.{Word}
use Rattle.net_signature.specs.Signature.{SignatureValue}
use Rattle.job_input.specs.File.{Read}
use Rattle.job_input.specs.SettingOf.{SettingWith, SignedOf, SignedValue, signed_over}
use Rattle.job_input.specs.SettingValue.{SettingValue}

-- the signature of a file with its field: the file is read, and its text taken
abbrev pub SignedIn : Option Files → Word → Outcome Fault SignedValue
SignedIn held file = do
  text ← Within File (Read held file)
  Within Signature (SignedOf text)

-- the setting of a signature over the field of 2 to the k elements with this product
abbrev pub SettingOver : ℕ → (ℕ → ℕ → ℕ) → SignatureValue → Outcome Fault SettingValue
SettingOver k product signature = Within Signature (SettingWith (signed_over k product signature))

-- the second of two signatures with its field
abbrev pub SecondSignedIn : Option Files → Word → Outcome Fault SignedValue
SecondSignedIn held file = do
  text ← Within File (Read held file)
  Within SecondSignature (SignedOf text)

-- the second signature itself, whose words must have bases as those of the first
abbrev pub SecondOf : SignedValue → Outcome Fault SignatureValue
SecondOf signed = do
  setting ← Within SecondSignature (SettingWith signed)
  Exactly setting.signature

-- the second signature of a file: it is read, its text taken, and then the bases of its words
abbrev pub SecondIn : Option Files → Word → Outcome Fault SignatureValue
SecondIn held file = do
  signed ← SecondSignedIn held file
  SecondOf signed
