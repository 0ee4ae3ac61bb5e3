use Rattle.std.proofs.Common.{sym, subst}
use Rattle.job_io.specs.Counts.{Rose}
use Rattle.job_words.specs.Command.{spelled_job}
use Rattle.job_words.specs.Stop.{GivesBy}
use Rattle.job_words.specs.declared.command.Command.{Command}
use Rattle.gf_abs.specs.Answer.{JobAnswer}
use Rattle.answer_core.specs.Reply.{reply_of}
use Rattle.gf_abs.proofs.top.job_answer.Goals as goal

pub returns-in-Over-clause-gives : goal.returns-in-Over-clause-gives
returns-in-Over-clause-gives g c =
    let held = g.S.Shelf.held c.args.shelf.now in
    let missed = Rose (g.S.Shelf.misses c.args.shelf.now) (g.S.Shelf.misses c.over_signature.new.shelf) in
    let failed = Rose (g.S.Shelf.faults c.args.shelf.now) (g.S.Shelf.faults c.over_signature.new.shelf) in
    let P : Command → Type 0 = λ command. GivesBy reply_of c.over_signature.result (JobAnswer held (spelled_job command)) missed failed in
    subst P (sym c.in-Over.is) c.over_signature.ensures.gives
