-- What the answers of `eval` say of the job in the files. Source: this project's own.
use Rattle.std.specs.Prelude.{◌≡◌, ℕ, List, length, Some, Ok}
use Rattle.job_io.specs.Shelf.{Files}
use Rattle.circuit_model.specs.Circuit.{Circuit}
use Rattle.circuit_model.specs.Out.{IsOut}
use Rattle.job_words.specs.Command.{Eval, Over, IsSpelled}
use Rattle.job_words.specs.Operands.{Word}
use Rattle.job_input.specs.SettingValue.{SettingValue}
use Rattle.gf_abs.specs.Answer.{Answer}
use Rattle.answer_core.specs.Printed.{AreHeld}
use Rattle.answer_core.specs.Reply.{Reply}
use Rattle.answer_polynomials.specs.Values.{ValuesOf}
use Rattle.answer_polynomials.specs.Eval.{element_line}

-- to the words `eval SIGNATURE NET VALUE..` over the held files the program answers with this reply, over so many cycles after the first
pub record AnswersEval (files : Files) (words : List Word) (signature net : Word) (values : List Word) (cycles : ℕ) (reply : Reply) : Type 0 where
  pub spelled : IsSpelled words (Over signature (Eval net values cycles))
  pub answer : Answer words (Some files) (Ok reply)

-- the values are elements, one for each word of the job, and the reply is the line of the output there
pub record PrintsElement (setting : SettingValue) (job : Circuit) (values : List Word) (reply : Reply) : Type 0 where
  pub input : List ℕ
  pub output : ℕ
  pub values_are : ValuesOf setting.k (length job.words) values (Ok input)
  pub is_out : IsOut job input output
  pub status : reply.status ≡ 0
  pub line : reply.text ≡ element_line setting output

-- the held files give a job, and the reply is the line of its output at the values
pub record PrintsHeldElement (files : Files) (signature net : Word) (values : List Word) (cycles : ℕ) (reply : Reply) : Type 0 where
  pub setting : SettingValue
  pub job : Circuit
  pub held : AreHeld files signature net cycles setting job
  pub printed : PrintsElement setting job values reply

-- what is said of each reply of `eval` over held files
abbrev pub EachEvalReply : (Files → (signature net : Word) → (values : List Word) → (cycles : ℕ) → Reply → Type 0) → Type 0
EachEvalReply Says = (files : Files) (words : List Word) (signature net : Word) (values : List Word) (cycles : ℕ) (reply : Reply)
    → AnswersEval files words signature net values cycles reply → Says files signature net values cycles reply
