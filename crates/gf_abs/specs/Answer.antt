-- What the program answers to its words, over the files that the shelf holds: the table of commands. Source: this project's own.
use Rattle.std.specs.Prelude.{ℕ, List, Option}
use Rattle.outcome.specs.Outcome.{Outcome, ◌>>=◌, Within}
use Rattle.net_signature.specs.Signature.{SignatureValue}
use Rattle.job_io.specs.Shelf.{Files}
use Rattle.job_words.specs.declared.fault.Fault.{Fault}
use Rattle.job_words.specs.declared.fault.Fault.TheVariants.{Signature}
use Rattle.job_words.specs.declared.command.Command.{Command}
use Rattle.job_words.specs.declared.command.Task.{Task}
use Rattle.job_words.specs.Operands.{Word}
use Rattle.job_words.specs.Command.{Action, Bits, Abstract, Check, Same, Eval, Iso, Lift, Table, Certify, Verify, Upgrade, Make, Compose, Job, Over, Trial, action_of, spelled_job}
use Rattle.job_input.specs.SettingOf.{SignedValue, SettingWith}
use Rattle.job_input.specs.SettingValue.{SettingValue}
use Rattle.job_input.specs.SignedIn.{SignedIn}
use Rattle.job_laws.specs.HasOutcome.{HasOutcome}
pub use Rattle.job_laws.specs.Spelled.{Spelled}
use Rattle.answer_core.specs.Reply.{Reply}
use Rattle.answer_polynomials.specs.Bits.{BitsAnswer}
use Rattle.answer_polynomials.specs.Abstract.{AbstractAnswer}
use Rattle.answer_polynomials.specs.Check.{CheckAnswer}
use Rattle.answer_polynomials.specs.Same.{SameAnswer}
use Rattle.answer_polynomials.specs.Eval.{EvalAnswer}
use Rattle.answer_tables.specs.Iso.{IsoAnswer}
use Rattle.answer_tables.specs.Lift.{LiftAnswer}
use Rattle.answer_tables.specs.Table.{TableAnswer}
use Rattle.answer_certificates.specs.Certify.{CertifyAnswer}
use Rattle.answer_certificates.specs.Verify.{VerifyAnswer}
use Rattle.answer_certificates.specs.Upgrade.{UpgradeAnswer}
use Rattle.answer_makers.specs.Make.{MakeAnswer}
use Rattle.answer_composition.specs.Compose.{ComposeAnswer}
use Rattle.answer_makers.specs.Trial.{TrialAnswer}

-- what comes of a command after its signature was taken
abbrev pub ActionAnswer : Option Files → SettingValue → Action → Outcome Fault Reply
ActionAnswer held setting (Bits net terms cycles simple) = BitsAnswer held setting net terms cycles simple
ActionAnswer held setting (Abstract net terms cycles simple) = AbstractAnswer held setting net terms cycles simple
ActionAnswer held setting (Check net specification terms cycles simple) = CheckAnswer held setting net specification terms cycles simple
ActionAnswer held setting (Same net other terms cycles simple) = SameAnswer held setting net other terms cycles simple
ActionAnswer held setting (Eval net values cycles) = EvalAnswer held setting net values cycles
ActionAnswer held setting (Iso other) = IsoAnswer held setting.signature other
ActionAnswer held setting (Lift table) = LiftAnswer held setting table
ActionAnswer held setting (Table net cycles) = TableAnswer held setting net cycles
ActionAnswer held setting (Certify net terms cycles) = CertifyAnswer held setting net terms cycles
ActionAnswer held setting (Verify net certificate terms cycles) = VerifyAnswer held setting net certificate terms cycles
ActionAnswer held setting (Upgrade net certificate cycles) = UpgradeAnswer held setting net certificate cycles
ActionAnswer held setting (Make kind) = MakeAnswer setting kind
ActionAnswer held setting (Compose net terms) = ComposeAnswer held setting net terms

-- what comes of a command over a signature with its field: first the bases of its words
abbrev pub SignedAnswer : Option Files → SignedValue → Action → Outcome Fault Reply
SignedAnswer held signed action = do
  setting ← Within Signature (SettingWith signed)
  ActionAnswer held setting action

-- what comes of a command: its signature is read and taken first, but for a trial, which reads no file
abbrev pub JobAnswer : Option Files → Job → Outcome Fault Reply
JobAnswer held (Over signature action) = do
  signed ← SignedIn held signature
  SignedAnswer held signed action
JobAnswer held (Trial number modulus terms) = TrialAnswer number modulus terms

-- the answer to the words
abbrev pub Answer : List Word → Option Files → Outcome Fault Reply
Answer words held = do
  job ← Spelled words
  JobAnswer held job

-- to all words there is one, a reply or a fault, whatever is held
abbrev pub HaveAnswers : Type 0
HaveAnswers = (words : List Word) (held : Option Files) → HasOutcome (Answer words held)

-- ---- the same of the program's own values, for the clauses of private functions

-- a signature with the field of this degree and product
abbrev pub signed_with : ℕ → (ℕ → ℕ → ℕ) → SignatureValue → SignedValue
signed_with k product signature = record { signature = signature; field = record { k = k; product = product } }

-- what comes of a task over a setting
abbrev pub TaskAnswer : SettingValue → Task → Option Files → Outcome Fault Reply
TaskAnswer setting task held = ActionAnswer held setting (action_of task)

-- over a signature with its field
abbrev pub SignedTask : SignedValue → Task → Option Files → Outcome Fault Reply
SignedTask signed task held = SignedAnswer held signed (action_of task)

-- over the signature of this file
abbrev pub TaskOver : Word → Task → Option Files → Outcome Fault Reply
TaskOver file task held = JobAnswer held (Over file (action_of task))

-- what comes of a command
abbrev pub CommandAnswer : Command → Option Files → Outcome Fault Reply
CommandAnswer command held = JobAnswer held (spelled_job command)
