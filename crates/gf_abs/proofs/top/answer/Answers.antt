use Rattle.std.proofs.Common.{map, string_bytes}
use Rattle.job_io.specs.Counts.{Rose}
use Rattle.job_words.specs.Command.{spelled_job}
use Rattle.job_words.proofs.StepLemmas.{after}
use Rattle.gf_abs.specs.Answer.{Spelled, JobAnswer}
use Rattle.answer_core.specs.Reply.{reply_of}
use Rattle.gf_abs.proofs.top.answer.Goals as goal

pub returns-in-Some-clause-gives : goal.returns-in-Some-clause-gives
returns-in-Some-clause-gives g c =
    let held = g.S.Shelf.held c.args.shelf.now in
    let missed = Rose (g.S.Shelf.misses c.args.shelf.now) (g.S.Shelf.misses c.job_answer.new.shelf) in
    let failed = Rose (g.S.Shelf.faults c.args.shelf.now) (g.S.Shelf.faults c.job_answer.new.shelf) in
    after reply_of c.job_answer.result (Spelled (map string_bytes c.args.words.now)) (λ job. JobAnswer held job) (spelled_job c.in-Some.command)
    missed failed missed failed c.in-Some.ensures.found (λ m. m) (λ f. f) c.job_answer.ensures.gives
