-- What the answers of `compose` say. Source: this project's own.
use Rattle.std.specs.Prelude.{◌≡◌, ℕ, List, Some, Ok}
use Rattle.job_io.specs.Shelf.{Files}
use Rattle.job_words.specs.Command.{Compose, Over, IsSpelled}
use Rattle.job_words.specs.Operands.{Word}
use Rattle.gf_abs.specs.Answer.{Answer}
use Rattle.gf_abs.specs.Headline.{AnswersAbstract}
use Rattle.answer_core.specs.Reply.{Reply}

-- to the words `compose SIGNATURE NET` over the held files the program answers with this reply
pub record AnswersCompose (files : Files) (words : List Word) (signature net : Word) (reply : Reply) : Type 0 where
  pub bound : ℕ
  pub spelled : IsSpelled words (Over signature (Compose net bound))
  pub answer : Answer words (Some files) (Ok reply)

-- what is said of each reply of `compose` over held files
abbrev pub EachComposeReply : (Files → (signature net : Word) → Reply → Type 0) → Type 0
EachComposeReply Says = (files : Files) (words : List Word) (signature net : Word) (reply : Reply) → AnswersCompose files words signature net reply → Says files signature net reply

-- where `compose` and `abstract` have a reply over the same files, in one cycle, they print the same bytes
abbrev pub ComposePrintsAsAbstract : Type 0
ComposePrintsAsAbstract = (files : Files) (words words' : List Word) (signature net : Word) (reply reply' : Reply)
    → AnswersCompose files words signature net reply → AnswersAbstract files words' signature net 0 reply' → reply.text ≡ reply'.text
