-- The answers of the program to the words `bits`, `abstract` and `same`, and what those of `same` say of the jobs in the files.
-- Source: this project's own.
use Rattle.std.specs.Prelude.{◌≡◌, ◌↔◌, ℕ, ◌<◌, ◌^◌, Bool, List, Some, Ok, codes}
use Rattle.job_io.specs.Shelf.{Files}
use Rattle.poly_mixed.specs.Polynomial.{Terms}
use Rattle.circuit_model.specs.Circuit.{Circuit, IsInput}
use Rattle.circuit_model.specs.Out.{IsOut}
use Rattle.job_words.specs.Operands.{Word}
use Rattle.job_words.specs.Command.{Bits, Abstract, Same, Over, IsSpelled}
use Rattle.job_input.specs.SettingValue.{SettingValue}
use Rattle.gf_abs.specs.Answer.{Answer}
use Rattle.answer_core.specs.Printed.{AreHeld, AreOneFunction, PrintsDifference}
use Rattle.answer_core.specs.Reply.{Reply, polynomial_line}

-- to the words `bits SIGNATURE NET` over the held files the program answers with this reply, over so many cycles after the first; under
-- any bound on terms, and with `--simplify` or without it
pub record AnswersBits (files : Files) (words : List Word) (signature net : Word) (cycles : ℕ) (reply : Reply) : Type 0 where
  pub bound : ℕ
  pub simple : Bool
  pub spelled : IsSpelled words (Over signature (Bits net bound cycles simple))
  pub answer : Answer words (Some files) (Ok reply)

-- and to the words `abstract SIGNATURE NET` with this one
pub record AnswersAbstract (files : Files) (words : List Word) (signature net : Word) (cycles : ℕ) (reply : Reply) : Type 0 where
  pub bound : ℕ
  pub simple : Bool
  pub spelled : IsSpelled words (Over signature (Abstract net bound cycles simple))
  pub answer : Answer words (Some files) (Ok reply)

-- and to the words `same SIGNATURE NET NET` with this one
pub record AnswersSame (files : Files) (words : List Word) (signature net other : Word) (cycles : ℕ) (reply : Reply) : Type 0 where
  pub bound : ℕ
  pub simple : Bool
  pub spelled : IsSpelled words (Over signature (Same net other bound cycles simple))
  pub answer : Answer words (Some files) (Ok reply)

-- the held files of these names give the setting and two jobs, each over so many cycles after the first
pub record AreHeldBoth (files : Files) (signature net other : Word) (cycles : ℕ) (setting : SettingValue) (job second : Circuit) : Type 0 where
  pub held : AreHeld files signature net cycles setting job
  pub more : AreHeld files signature other cycles setting second

-- the held files give two jobs, and the status is 0 exactly if they are one function
pub record ComparesHeld (files : Files) (signature net other : Word) (cycles : ℕ) (reply : Reply) : Type 0 where
  pub setting : SettingValue
  pub job : Circuit
  pub second : Circuit
  pub are : AreHeldBoth files signature net other cycles setting job second
  pub equal : reply.status ≡ 0 ↔ AreOneFunction job second

-- the held files give two jobs that are one function, and the reply says so
pub record PrintsHeldSame (files : Files) (signature net other : Word) (cycles : ℕ) (reply : Reply) : Type 0 where
  pub setting : SettingValue
  pub job : Circuit
  pub second : Circuit
  pub are : AreHeldBoth files signature net other cycles setting job second
  pub equal : AreOneFunction job second
  pub text : reply.text ≡ codes "same\n"

-- the held files give two jobs, and the reply prints the input at which they are told apart
pub record PrintsHeldDifference (files : Files) (signature net other : Word) (cycles : ℕ) (reply : Reply) : Type 0 where
  pub setting : SettingValue
  pub job : Circuit
  pub second : Circuit
  pub are : AreHeldBoth files signature net other cycles setting job second
  pub printed : PrintsDifference setting job second reply

-- ---- what is said of all replies of these commands

-- of each reply of `bits` over held files
abbrev pub EachBitsReply : (Files → (signature net : Word) → (cycles : ℕ) → Reply → Type 0) → Type 0
EachBitsReply Says = (files : Files) (words : List Word) (signature net : Word) (cycles : ℕ) (reply : Reply)
    → AnswersBits files words signature net cycles reply → Says files signature net cycles reply

-- of each reply of `abstract`
abbrev pub EachAbstractReply : (Files → (signature net : Word) → (cycles : ℕ) → Reply → Type 0) → Type 0
EachAbstractReply Says = (files : Files) (words : List Word) (signature net : Word) (cycles : ℕ) (reply : Reply)
    → AnswersAbstract files words signature net cycles reply → Says files signature net cycles reply

-- of each reply of `same`
abbrev pub EachSameReply : (Files → (signature net other : Word) → (cycles : ℕ) → Reply → Type 0) → Type 0
EachSameReply Says = (files : Files) (words : List Word) (signature net other : Word) (cycles : ℕ) (reply : Reply)
    → AnswersSame files words signature net other cycles reply → Says files signature net other cycles reply

-- ---- of a command, by when it answers with a reply to words over held files of a signature and a netlist

-- any two replies to the same files and number of cycles are one
abbrev pub HasOneReply : (Files → List Word → (signature net : Word) → (cycles : ℕ) → Reply → Type 0) → Type 0
HasOneReply Answers = (files : Files) (words words' : List Word) (signature net : Word) (cycles : ℕ) (reply reply' : Reply)
    → Answers files words signature net cycles reply → Answers files words' signature net cycles reply' → reply ≡ reply'

-- so it is of a command over a signature, a netlist and a further file
abbrev pub HasOneReplyOverPairs : (Files → List Word → (signature net other : Word) → (cycles : ℕ) → Reply → Type 0) → Type 0
HasOneReplyOverPairs Answers = (files : Files) (words words' : List Word) (signature net other : Word) (cycles : ℕ) (reply reply' : Reply)
    → Answers files words signature net other cycles reply → Answers files words' signature net other cycles reply' → reply ≡ reply'

-- of the polynomials of this form over the job of the held files, its reply is the line of exactly those that have the job's values
abbrev pub IsTheOnlyLine : (Files → List Word → (signature net : Word) → (cycles : ℕ) → Reply → Type 0) → (IsOfForm HasValues : SettingValue → Circuit → Terms → Type 0) → Type 0
IsTheOnlyLine Answers IsOfForm HasValues = (files : Files) (words : List Word) (signature net : Word) (cycles : ℕ) (reply : Reply) (setting : SettingValue) (job : Circuit) (ts : Terms)
    → Answers files words signature net cycles reply → AreHeld files signature net cycles setting job → IsOfForm setting job ts
    → reply.text ≡ polynomial_line setting ts ↔ HasValues setting job ts

-- two of its replies, over one setting and two jobs, have the same bytes exactly if the jobs are one function
abbrev pub EqualBytesAreOneFunction : (Files → List Word → (signature net : Word) → (cycles : ℕ) → Reply → Type 0) → Type 0
EqualBytesAreOneFunction Answers = (files files' : Files) (words words' : List Word) (signature signature' net net' : Word) (cycles cycles' : ℕ) (reply reply' : Reply) (setting : SettingValue) (job other : Circuit)
    → Answers files words signature net cycles reply → Answers files' words' signature' net' cycles' reply'
    → AreHeld files signature net cycles setting job → AreHeld files' signature' net' cycles' setting other
    → reply.text ≡ reply'.text ↔ AreOneFunction job other

-- ---- what held files give

-- one setting and one job at most
abbrev pub GiveOneJob : Files → (signature net : Word) → (cycles : ℕ) → Type 0
GiveOneJob files signature net cycles = (setting other : SettingValue) (job second : Circuit)
    → AreHeld files signature net cycles setting job → AreHeld files signature net cycles other second → (setting ≡ other) × (job ≡ second)

-- a job that has an output at each input, which is an element of the field
abbrev pub GiveOutputs : Files → (signature net : Word) → (cycles : ℕ) → Type 0
GiveOutputs files signature net cycles = (setting : SettingValue) (job : Circuit) (xs : List ℕ)
    → AreHeld files signature net cycles setting job → IsInput job xs → (e : ℕ) × IsOut job xs e × (e < 2 ^ job.k)

-- a job that has one output at most at an input
abbrev pub GiveOneOutput : Files → (signature net : Word) → (cycles : ℕ) → Type 0
GiveOneOutput files signature net cycles = (setting : SettingValue) (job : Circuit) (xs : List ℕ) (e other : ℕ)
    → AreHeld files signature net cycles setting job → IsOut job xs e → IsOut job xs other → e ≡ other
