-- The answers of the program to the words `make`. Source: this project's own.
use Rattle.std.specs.Prelude.{List, Some, Ok}
use Rattle.job_io.specs.Shelf.{Files}
use Rattle.job_words.specs.Command.{Make, Over, IsSpelled}
use Rattle.job_words.specs.Operands.{Word}
use Rattle.job_words.specs.declared.kind.Kind.{Kind}
use Rattle.gf_abs.specs.Answer.{Answer}
use Rattle.answer_core.specs.Reply.{Reply}
use Rattle.answer_makers.specs.Made.{HoldKind, HoldMade}

-- to the words `make KIND SIGNATURE` over the held files the program answers with this reply
pub record AnswersMake (files : Files) (words : List Word) (kind : Kind) (signature : Word) (reply : Reply) : Type 0 where
  pub spelled : IsSpelled words (Over signature (Make kind))
  pub answer : Answer words (Some files) (Ok reply)

-- wherever the reply's text is held as a netlist in BLIF beside the same signature, the two give a job that computes what the kind does
abbrev pub IsComputedAgain : (files : Files) (kind : Kind) (signature : Word) → Reply → Type 0
IsComputedAgain files kind signature reply = (others : Files) (net : Word) → HoldMade files others signature net reply.text → HoldKind others signature net kind

-- wherever what `make` printed is held as a netlist in BLIF beside the same signature, the two give a job that computes what the kind does
abbrev pub MadeNetlistsCompute : Type 0
MadeNetlistsCompute = (files others : Files) (words : List Word) (kind : Kind) (signature net : Word) (reply : Reply)
    → AnswersMake files words kind signature reply → HoldMade files others signature net reply.text → HoldKind others signature net kind
