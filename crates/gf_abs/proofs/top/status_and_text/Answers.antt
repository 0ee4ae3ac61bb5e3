use Rattle.std.proofs.Common.{map, string_bytes}
use Rattle.std.proofs.lemmas.Result.{IfErr-weaker, IfOk-weaker}
use Rattle.job_io.specs.Counts.{Rose}
use Rattle.gf_abs.specs.Answer.{Answer}
use Rattle.gf_abs.proofs.ToldLemmas.{told_stop, told_text}
use Rattle.gf_abs.proofs.top.status_and_text.Goals as goal

pub returns-in-Err-clause-text : goal.returns-in-Err-clause-text
returns-in-Err-clause-text g c =
    let missed = Rose (g.S.Shelf.misses c.args.shelf.now) (g.S.Shelf.misses c.answer.new.shelf) in
    let failed = Rose (g.S.Shelf.faults c.args.shelf.now) (g.S.Shelf.faults c.answer.new.shelf) in
    IfOk-weaker c.refusal-refused.result _ _ (told_text (Answer (map string_bytes c.args.words.now) (g.S.Shelf.held c.args.shelf.now)) missed failed c.in-Err.stop c.in-Err.ensures.gives) c.refusal-refused.ensures.text

pub returns-in-Err-clause-stops : goal.returns-in-Err-clause-stops
returns-in-Err-clause-stops g c =
    let missed = Rose (g.S.Shelf.misses c.args.shelf.now) (g.S.Shelf.misses c.answer.new.shelf) in
    let failed = Rose (g.S.Shelf.faults c.args.shelf.now) (g.S.Shelf.faults c.answer.new.shelf) in
    IfErr-weaker c.refusal-refused.result _ _ (told_stop (Answer (map string_bytes c.args.words.now) (g.S.Shelf.held c.args.shelf.now)) missed failed c.in-Err.stop c.in-Err.ensures.gives) c.refusal-refused.ensures.status
