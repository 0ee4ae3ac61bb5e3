-- What the answers of `iso` say of the two signatures in the files.
-- Source: Lidl and Niederreiter, Finite Fields, chapter 2, theorem 2.5.
use Rattle.std.specs.Prelude.{◌≡◌, List, Some, Ok}
use Rattle.job_io.specs.Shelf.{Files}
use Rattle.job_words.specs.Command.{Iso, Over, IsSpelled}
use Rattle.job_words.specs.Operands.{Word}
use Rattle.job_input.specs.SettingValue.{SettingValue}
use Rattle.gf_abs.specs.Answer.{Answer}
use Rattle.answer_core.specs.Reply.{Reply}
use Rattle.gf_abs.specs.TableHeadline.{IsHeldSetting}
use Rattle.answer_tables.specs.Iso.{AreImages}

-- to the words `iso SIGNATURE SIGNATURE` over the held files the program answers with this reply
pub record AnswersIso (files : Files) (words : List Word) (signature other : Word) (reply : Reply) : Type 0 where
  pub spelled : IsSpelled words (Over signature (Iso other))
  pub answer : Answer words (Some files) (Ok reply)

-- both held files are signatures, and the reply has the images of the numbers 2^i of the second's field in the first's
pub record PrintsImages (files : Files) (signature other : Word) (reply : Reply) : Type 0 where
  pub first : SettingValue
  pub second : SettingValue
  pub is_first : IsHeldSetting files signature first
  pub is_second : IsHeldSetting files other second
  pub images : AreImages first.signature second.signature reply
  pub status : reply.status ≡ 0

-- what is said of each reply of `iso` over held files
abbrev pub EachIsoReply : (Files → (signature other : Word) → Reply → Type 0) → Type 0
EachIsoReply Says = (files : Files) (words : List Word) (signature other : Word) (reply : Reply) → AnswersIso files words signature other reply → Says files signature other reply
