-- That something comes of each command over the setting of a signature's text, whatever the shelf holds. Source: this project's own.
use Rattle.std.specs.Prelude.{ℕ, Bool, List, Option, Ok}
use Rattle.job_io.specs.Shelf.{Files}
use Rattle.job_words.specs.Operands.{Word}
use Rattle.job_words.specs.declared.kind.Kind.{Kind}
use Rattle.job_input.specs.SettingOf.{SettingOf}
use Rattle.job_input.specs.SettingValue.{SettingValue}
use Rattle.answer_certificates.specs.Certify.{CertifyAnswer}
use Rattle.answer_certificates.specs.Upgrade.{UpgradeAnswer}
use Rattle.answer_certificates.specs.Verify.{VerifyAnswer}
use Rattle.answer_composition.specs.Compose.{ComposeAnswer}
use Rattle.answer_makers.specs.Make.{MakeAnswer}
use Rattle.answer_makers.specs.Trial.{TrialAnswer}
use Rattle.answer_polynomials.specs.Abstract.{AbstractAnswer}
use Rattle.answer_polynomials.specs.Bits.{BitsAnswer}
use Rattle.answer_polynomials.specs.Check.{CheckAnswer}
use Rattle.answer_polynomials.specs.Eval.{EvalAnswer}
use Rattle.answer_polynomials.specs.Same.{SameAnswer}
use Rattle.answer_tables.specs.Iso.{IsoAnswer}
use Rattle.answer_tables.specs.Lift.{LiftAnswer}
use Rattle.answer_tables.specs.Table.{TableAnswer}
use Rattle.job_laws.specs.HasOutcome.{HasOutcome}

-- it is so of each setting that a signature's text gives, and of whatever is held
abbrev pub OverSettings : (Option Files → SettingValue → Type 0) → Type 0
OverSettings Says = (held : Option Files) (bytes : List ℕ) (setting : SettingValue) → SettingOf bytes (Ok setting) → Says held setting

-- of `check` comes a reply or a fault
abbrev pub HaveCheckAnswers : Type 0
HaveCheckAnswers = OverSettings (λ held setting. (net specification : Word) (bound cycles : ℕ) (simple : Bool) → HasOutcome (CheckAnswer held setting net specification bound cycles simple))

-- of `bits`
abbrev pub HaveBitsAnswers : Type 0
HaveBitsAnswers = OverSettings (λ held setting. (net : Word) (bound cycles : ℕ) (simple : Bool) → HasOutcome (BitsAnswer held setting net bound cycles simple))

-- of `abstract`
abbrev pub HaveAbstractAnswers : Type 0
HaveAbstractAnswers = OverSettings (λ held setting. (net : Word) (bound cycles : ℕ) (simple : Bool) → HasOutcome (AbstractAnswer held setting net bound cycles simple))

-- of `same`
abbrev pub HaveSameAnswers : Type 0
HaveSameAnswers = OverSettings (λ held setting. (net other : Word) (bound cycles : ℕ) (simple : Bool) → HasOutcome (SameAnswer held setting net other bound cycles simple))

-- of `eval`
abbrev pub HaveEvalAnswers : Type 0
HaveEvalAnswers = OverSettings (λ held setting. (net : Word) (values : List Word) (cycles : ℕ) → HasOutcome (EvalAnswer held setting net values cycles))

-- of `table`
abbrev pub HaveTableAnswers : Type 0
HaveTableAnswers = OverSettings (λ held setting. (net : Word) (cycles : ℕ) → HasOutcome (TableAnswer held setting net cycles))

-- of `lift`
abbrev pub HaveLiftAnswers : Type 0
HaveLiftAnswers = OverSettings (λ held setting. (file : Word) → HasOutcome (LiftAnswer held setting file))

-- of `certify`
abbrev pub HaveCertifyAnswers : Type 0
HaveCertifyAnswers = OverSettings (λ held setting. (net : Word) (bound cycles : ℕ) → HasOutcome (CertifyAnswer held setting net bound cycles))

-- of `verify`
abbrev pub HaveVerifyAnswers : Type 0
HaveVerifyAnswers = OverSettings (λ held setting. (net certificate : Word) (bound cycles : ℕ) → HasOutcome (VerifyAnswer held setting net certificate bound cycles))

-- of `upgrade`
abbrev pub HaveUpgradeAnswers : Type 0
HaveUpgradeAnswers = OverSettings (λ held setting. (net certificate : Word) (cycles : ℕ) → HasOutcome (UpgradeAnswer held setting net certificate cycles))

-- of `make`
abbrev pub HaveMakeAnswers : Type 0
HaveMakeAnswers = OverSettings (λ held setting. (kind : Kind) → HasOutcome (MakeAnswer setting kind))

-- of `compose`
abbrev pub HaveComposeAnswers : Type 0
HaveComposeAnswers = OverSettings (λ held setting. (net : Word) (bound : ℕ) → HasOutcome (ComposeAnswer held setting net bound))

-- of `iso`
abbrev pub HaveIsoAnswers : Type 0
HaveIsoAnswers = OverSettings (λ held setting. (other : Word) → HasOutcome (IsoAnswer held setting.signature other))

-- and of `trial`, which reads no signature
abbrev pub HaveTrialAnswers : Type 0
HaveTrialAnswers = (number modulus bound : ℕ) → HasOutcome (TrialAnswer number modulus bound)
