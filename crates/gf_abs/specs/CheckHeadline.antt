-- What the answers of `check` say of the job and the specification in the files. Source: this project's own.
use Rattle.std.specs.Prelude.{◌≡◌, ◌↔◌, ℕ, Bool, List, ◌++◌, codes, Some, Ok}
use Rattle.job_io.specs.Shelf.{Files}
use Rattle.poly_mixed.specs.Polynomial.{Terms}
use Rattle.circuit_model.specs.Circuit.{Circuit}
use Rattle.circuit_model.specs.Differing.{Difference, IsDifferingInput}
use Rattle.circuit_model.specs.Out.{IsOut}
use Rattle.spec_expand.specs.Specification.{SpecTerms}
use Rattle.job_words.specs.Operands.{Word}
use Rattle.job_words.specs.Command.{Check, Over, IsSpelled}
use Rattle.job_input.specs.Labelling.{labels_of}
use Rattle.job_input.specs.SettingValue.{SettingValue}
use Rattle.job_input.specs.SpecificationIn.{SpecificationIn}
use Rattle.gf_abs.specs.Answer.{Answer}
use Rattle.answer_core.specs.DifferingLines.{differing_lines}
use Rattle.answer_core.specs.Printed.{AreHeld, IsInItsWords, HasOutput}
use Rattle.answer_core.specs.Reply.{Reply, polynomial_line}
use Rattle.answer_core.specs.Judged.{Computes, IsSpecified}

-- to the words `check SIGNATURE NET SPECIFICATION` over the held files the program answers with this reply, over so many cycles after
-- the first; under any bound on terms, and with `--simplify` or without it
pub record AnswersCheck (files : Files) (words : List Word) (signature net specification : Word) (cycles : ℕ) (reply : Reply) : Type 0 where
  pub bound : ℕ
  pub simple : Bool
  pub spelled : IsSpelled words (Over signature (Check net specification bound cycles simple))
  pub answer : Answer words (Some files) (Ok reply)

-- the held files of these names give the setting, the job and the specification
pub record AreHeldWith (files : Files) (signature net specification : Word) (cycles : ℕ) (setting : SettingValue) (job : Circuit) (spec : SpecTerms) : Type 0 where
  pub held : AreHeld files signature net cycles setting job
  pub said : SpecificationIn (Some files) (labels_of setting.k setting.signature.words) setting.k setting.product specification (Ok spec)

-- the reply is `accepted` and the line of the netlist's polynomial: reduced, in the job's words alone, with the output's values
pub record PrintsAcceptance (setting : SettingValue) (job : Circuit) (reply : Reply) : Type 0 where
  pub polynomial : Terms
  pub text : reply.text ≡ codes "accepted\n" ++ polynomial_line setting polynomial
  pub in_words : IsInItsWords setting job polynomial
  pub values : HasOutput setting job polynomial

-- the reply is `rejected`, the line of the netlist's polynomial, and the input at which the output and the specification are told
-- apart with the two values there
pub record PrintsRejection (setting : SettingValue) (job : Circuit) (spec : SpecTerms) (reply : Reply) : Type 0 where
  pub polynomial : Terms
  pub found : Difference
  pub text : reply.text ≡ codes "rejected\n" ++ (polynomial_line setting polynomial ++ differing_lines (labels_of setting.k setting.signature.words) (codes "netlist") (codes "specification") found)
  pub in_words : IsInItsWords setting job polynomial
  pub values : HasOutput setting job polynomial
  pub differing : IsDifferingInput job (IsOut job) (IsSpecified setting job spec) found.input found.left found.right

-- the held files give a job and a specification, and the status is 0 exactly if the job computes it
pub record ChecksHeld (files : Files) (signature net specification : Word) (cycles : ℕ) (reply : Reply) : Type 0 where
  pub setting : SettingValue
  pub job : Circuit
  pub spec : SpecTerms
  pub held : AreHeldWith files signature net specification cycles setting job spec
  pub equal : reply.status ≡ 0 ↔ Computes setting job spec

-- the held files give a job that computes their specification, and the reply prints that it is accepted, with its polynomial
pub record PrintsHeldAcceptance (files : Files) (signature net specification : Word) (cycles : ℕ) (reply : Reply) : Type 0 where
  pub setting : SettingValue
  pub job : Circuit
  pub spec : SpecTerms
  pub held : AreHeldWith files signature net specification cycles setting job spec
  pub computes : Computes setting job spec
  pub printed : PrintsAcceptance setting job reply

-- the held files give a job, and the reply prints its polynomial and the input at which it is not their specification
pub record PrintsHeldRejection (files : Files) (signature net specification : Word) (cycles : ℕ) (reply : Reply) : Type 0 where
  pub setting : SettingValue
  pub job : Circuit
  pub spec : SpecTerms
  pub held : AreHeldWith files signature net specification cycles setting job spec
  pub printed : PrintsRejection setting job spec reply

-- what is said of each reply of `check` over held files
abbrev pub EachCheckReply : (Files → (signature net specification : Word) → (cycles : ℕ) → Reply → Type 0) → Type 0
EachCheckReply Says = (files : Files) (words : List Word) (signature net specification : Word) (cycles : ℕ) (reply : Reply)
    → AnswersCheck files words signature net specification cycles reply → Says files signature net specification cycles reply
