use Rattle.std.proofs.Common.{inl, inr, arith, map, string_bytes}
use Rattle.job_io.specs.Counts.{Rose}
use Rattle.gf_abs.proofs.CompleteLemmas.{keeps_same}
use Rattle.gf_abs.proofs.StatusLemmas.{text_status}
use Rattle.gf_abs.proofs.top.write_answer.Goals as goal

pub returns-in-Ok-clause-failed : goal.returns-in-Ok-clause-failed
returns-in-Ok-clause-failed g c =
    λ _. let prefix = rw c.deref.ensures.value at c.in-Err-put_all.ensures.prefix in
    inr (c.in-Err-put_all.ensures.failed, c.in-Ok.output.status, c.in-Ok.output.text.items, prefix.0, c.in-Ok.ensures.text, prefix.1, prefix.2)

pub returns-in-Ok-put_all-clause-failed : goal.returns-in-Ok-put_all-clause-failed
returns-in-Ok-put_all-clause-failed g c = λ four.
    let low = text_status (map string_bytes c.args.words.now) (g.S.Shelf.held c.args.shelf.now) (Rose (g.S.Shelf.misses c.args.shelf.now) (g.S.Shelf.misses c.status_and_text.new.shelf)) c.in-Ok.output.status c.in-Ok.output.text.items c.in-Ok.ensures.text in
    absurd (omega (arith, low, four))

pub returns-clause-answers : goal.returns-clause-answers
returns-clause-answers g c = elim c.in-Err.ensures.stops [
  | inl four ↦ inl four.0
  | inr five ↦ inr (inl five)
]

pub returns-clause-failed : goal.returns-clause-failed
returns-clause-failed g c = λ four. elim c.in-Err.ensures.stops [
  | inl is ↦ inl (is.1, keeps_same (g.K.Sink.written c.args.sink.now))
  | inr five ↦ absurd (omega (arith, four, five))
]

pub returns-clause-no_memory : goal.returns-clause-no_memory
returns-clause-no_memory g c = λ _. keeps_same (g.K.Sink.written c.args.sink.now)
