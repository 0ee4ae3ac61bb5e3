-- The commands, and the words that spell them. Source: this project's own, docs/COMMANDS.md.
use Rattle.std.specs.Prelude.{◌≡◌, ℕ, Bool, List, ◌∷◌, codes, map, string_bytes}
use Rattle.job_words.specs.declared.command.Command.{Command}
use Rattle.job_words.specs.declared.command.Command.TheVariants as commands
use Rattle.job_words.specs.declared.command.Task.{Task}
use Rattle.job_words.specs.declared.command.Task.TheVariants as tasks
use Rattle.job_words.specs.declared.kind.Kind.{Kind}
use Rattle.job_words.specs.MadeWords.{AreTrialWords, IsOfKind}
use Rattle.job_words.specs.Operands.{Word}
use Rattle.job_words.specs.Options.{AreCircuitOptions, AreNone, AreStageOptions, AreSumOptions, IsCyclesOption, IsTermsOption}
use Rattle.job_words.specs.Shapes.{IsOverBlif, IsOverFile, IsOverFiles, AreValues}

-- what a command does over its signature
pub data Action : Type 0 where
  Bits : (net : Word) (terms cycles : ℕ) (simple : Bool) → Action
  Abstract : (net : Word) (terms cycles : ℕ) (simple : Bool) → Action
  Check : (net specification : Word) (terms cycles : ℕ) (simple : Bool) → Action
  Same : (net other : Word) (terms cycles : ℕ) (simple : Bool) → Action
  Eval : (net : Word) (values : List Word) (cycles : ℕ) → Action
  Iso : (other : Word) → Action
  Lift : (table : Word) → Action
  Table : (net : Word) (cycles : ℕ) → Action
  Certify : (net : Word) (terms cycles : ℕ) → Action
  Verify : (net certificate : Word) (terms cycles : ℕ) → Action
  Upgrade : (net certificate : Word) (cycles : ℕ) → Action
  Make : (kind : Kind) → Action
  Compose : (net : Word) (terms : ℕ) → Action

-- a command with its operands: what it does over the signature of this file, or a trial of a number and a modulus
pub data Job : Type 0 where
  Over : (signature : Word) (action : Action) → Job
  Trial : (number modulus terms : ℕ) → Job

-- its name
abbrev pub name_of : Action → Word
name_of (Bits net terms cycles simple) = codes "bits"
name_of (Abstract net terms cycles simple) = codes "abstract"
name_of (Check net specification terms cycles simple) = codes "check"
name_of (Same net other terms cycles simple) = codes "same"
name_of (Eval net values cycles) = codes "eval"
name_of (Iso other) = codes "iso"
name_of (Lift table) = codes "lift"
name_of (Table net cycles) = codes "table"
name_of (Certify net terms cycles) = codes "certify"
name_of (Verify net certificate terms cycles) = codes "verify"
name_of (Upgrade net certificate cycles) = codes "upgrade"
name_of (Make kind) = codes "make"
name_of (Compose net terms) = codes "compose"

-- the words that follow its name
abbrev pub AreOperandsOf : List Word → Word → Action → Type 0
AreOperandsOf words signature (Bits net terms cycles simple) = IsOverFile (λ rest. AreCircuitOptions rest terms cycles simple) words signature net
AreOperandsOf words signature (Abstract net terms cycles simple) = IsOverFile (λ rest. AreCircuitOptions rest terms cycles simple) words signature net
AreOperandsOf words signature (Check net specification terms cycles simple) = IsOverFiles (λ rest. AreCircuitOptions rest terms cycles simple) words signature net specification
AreOperandsOf words signature (Same net other terms cycles simple) = IsOverFiles (λ rest. AreCircuitOptions rest terms cycles simple) words signature net other
AreOperandsOf words signature (Eval net values cycles) = IsOverFile (λ rest. AreValues rest values cycles) words signature net
AreOperandsOf words signature (Iso other) = IsOverFile AreNone words signature other
AreOperandsOf words signature (Lift table) = IsOverFile AreNone words signature table
AreOperandsOf words signature (Table net cycles) = IsOverFile (λ rest. IsCyclesOption rest cycles) words signature net
AreOperandsOf words signature (Certify net terms cycles) = IsOverFile (λ rest. AreStageOptions rest terms cycles) words signature net
AreOperandsOf words signature (Verify net certificate terms cycles) = IsOverFiles (λ rest. AreSumOptions rest terms cycles) words signature net certificate
AreOperandsOf words signature (Upgrade net certificate cycles) = IsOverFiles (λ rest. IsCyclesOption rest cycles) words signature net certificate
AreOperandsOf words signature (Make kind) = IsOfKind words signature kind
AreOperandsOf words signature (Compose net terms) = IsOverBlif (λ rest. IsTermsOption 262144 65536 rest terms) words signature net

-- the words are the name of a command and what follows it
pub record IsNamed (name : Word) (Follow : List Word → Type 0) (words : List Word) : Type 0 where
  pub rest : List Word
  pub words_are : words ≡ name ∷ rest
  pub follow : Follow rest

-- the words spell the command
abbrev pub IsSpelled : List Word → Job → Type 0
IsSpelled words (Over signature action) = IsNamed (name_of action) (λ rest. AreOperandsOf rest signature action) words
IsSpelled words (Trial number modulus terms) = IsNamed (codes "trial") (λ rest. AreTrialWords rest number modulus terms) words

-- what the program's task is, by its operands
abbrev pub action_of : Task → Action
action_of (tasks.Bits words) = Bits words.net.now words.terms words.cycles words.simplify
action_of (tasks.Abstract words) = Abstract words.net.now words.terms words.cycles words.simplify
action_of (tasks.Check words) = Check words.net.now words.other.now words.terms words.cycles words.simplify
action_of (tasks.Same words) = Same words.net.now words.other.now words.terms words.cycles words.simplify
action_of (tasks.Eval words) = Eval words.net.now (map string_bytes words.values.now) words.cycles
action_of (tasks.Iso other) = Iso other.now
action_of (tasks.Lift table) = Lift table.now
action_of (tasks.Table words) = Table words.net.now words.cycles
action_of (tasks.Certify words) = Certify words.net.now words.terms words.cycles
action_of (tasks.Verify words) = Verify words.net.now words.other.now words.terms words.cycles
action_of (tasks.Upgrade words) = Upgrade words.net.now words.other.now words.cycles
action_of (tasks.Make kind) = Make kind
action_of (tasks.Compose words) = Compose words.net.now words.terms

-- the command that the program's words gave
abbrev pub spelled_job : Command → Job
spelled_job (commands.Over signature task) = Over signature.now (action_of task)
spelled_job (commands.Trial words) = Trial words.number words.modulus words.terms
