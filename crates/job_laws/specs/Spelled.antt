-- What comes of the words of a command. Source: this project's own, docs/COMMANDS.md.
use Rattle.std.specs.Prelude.{◌≡◌, List, Ok, Err}
use Rattle.outcome.specs.Outcome.{Outcome}
use Rattle.job_words.specs.declared.fault.Fault.{Fault}
use Rattle.job_words.specs.declared.fault.Fault.TheVariants.{Words}
use Rattle.job_words.specs.Operands.{Word}
use Rattle.job_words.specs.Command.{Job, IsSpelled}

-- the command that the words spell, or fault 01 where they spell none
abbrev pub Spelled : List Word → Outcome Fault Job
Spelled words (Ok job) = IsSpelled words job
Spelled words (Err fault) = (fault ≡ Words) × ((job : Job) → IsSpelled words job → ⊥)
