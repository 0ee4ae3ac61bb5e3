use Rattle.job_io.specs.Counts.{Rose}
use Rattle.job_words.proofs.StepLemmas.{after}
use Rattle.job_input.specs.SignedIn.{SecondIn}
use Rattle.answer_core.specs.Reply.{reply_of}
use Rattle.answer_tables.specs.Iso.{IsoReply}
use Rattle.answer_tables.proofs.iso.answer.Goals as goal

pub returns-in-Ok-clause-gives : goal.returns-in-Ok-clause-gives
returns-in-Ok-clause-gives g c =
    let first = c.args.named.now.setting.now.signature in
    let missed = Rose (g.S.Shelf.misses c.args.shelf.now) (g.S.Shelf.misses c.read_second.new.shelf) in
    let failed = Rose (g.S.Shelf.faults c.args.shelf.now) (g.S.Shelf.faults c.read_second.new.shelf) in
    after reply_of c.reply.result (SecondIn (g.S.Shelf.held c.args.shelf.now) c.args.file.now) (λ second. IsoReply first second) c.in-Ok.second.signature
    missed failed ⊥ ⊥ c.in-Ok.ensures.gives (λ m. absurd m) (λ f. absurd f) c.reply.ensures
