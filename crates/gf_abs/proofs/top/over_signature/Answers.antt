use Rattle.std.proofs.Common.{sym, subst}
use Rattle.job_io.specs.Counts.{Rose}
use Rattle.gf_tower.specs.declared.any_field.AnyField.{AnyField}
use Rattle.job_words.specs.Command.{action_of}
use Rattle.job_words.specs.Stop.{GivesBy}
use Rattle.job_words.proofs.StepLemmas.{after}
use Rattle.job_input.specs.Setting.{field_value, signed_value}
use Rattle.job_input.specs.SignedIn.{SignedIn}
use Rattle.job_input.proofs.RoseLemmas.{rose_earlier}
use Rattle.gf_abs.specs.Answer.{SignedAnswer}
use Rattle.answer_core.specs.Reply.{reply_of}
use Rattle.gf_abs.proofs.top.over_signature.Goals as goal

pub returns-in-Base-clause-gives : goal.returns-in-Base-clause-gives
returns-in-Base-clause-gives g c =
    let held = g.S.Shelf.held c.args.shelf.now in
    let action = action_of c.args.task.now in
    let m0 = g.S.Shelf.misses c.args.shelf.now in
    let m1 = g.S.Shelf.misses c.read_signed.new.shelf in
    let m2 = g.S.Shelf.misses c.signed_answer.new.shelf in
    let f0 = g.S.Shelf.faults c.args.shelf.now in
    let f1 = g.S.Shelf.faults c.read_signed.new.shelf in
    let f2 = g.S.Shelf.faults c.signed_answer.new.shelf in
    let P : AnyField → Type 0 = λ f. GivesBy reply_of c.signed_answer.result (SignedAnswer held (record { signature = c.in-Ok.signed.signature; field = field_value f }) action) (Rose m1 m2) (Rose f1 f2) in
    after reply_of c.signed_answer.result (SignedIn held c.args.file.now) (λ signed. SignedAnswer held signed action) (signed_value c.in-Ok.signed)
    (Rose m0 m2) (Rose f0 f2) (Rose m1 m2) (Rose f1 f2) c.in-Ok.ensures.gives
    (rose_earlier m0 m1 m2 c.read_signed.ensures.never_fall.1) (rose_earlier f0 f1 f2 c.read_signed.ensures.never_fall.0) (subst P (sym c.in-Base.is) (rw c.read_signed.ensures.held at c.signed_answer.ensures.gives))

pub returns-in-Tower-clause-gives : goal.returns-in-Tower-clause-gives
returns-in-Tower-clause-gives g c =
    let held = g.S.Shelf.held c.args.shelf.now in
    let action = action_of c.args.task.now in
    let m0 = g.S.Shelf.misses c.args.shelf.now in
    let m1 = g.S.Shelf.misses c.read_signed.new.shelf in
    let m2 = g.S.Shelf.misses c.signed_answer-in-Tower.new.shelf in
    let f0 = g.S.Shelf.faults c.args.shelf.now in
    let f1 = g.S.Shelf.faults c.read_signed.new.shelf in
    let f2 = g.S.Shelf.faults c.signed_answer-in-Tower.new.shelf in
    let P : AnyField → Type 0 = λ f. GivesBy reply_of c.signed_answer-in-Tower.result (SignedAnswer held (record { signature = c.in-Ok.signed.signature; field = field_value f }) action) (Rose m1 m2) (Rose f1 f2) in
    after reply_of c.signed_answer-in-Tower.result (SignedIn held c.args.file.now) (λ signed. SignedAnswer held signed action) (signed_value c.in-Ok.signed)
    (Rose m0 m2) (Rose f0 f2) (Rose m1 m2) (Rose f1 f2) c.in-Ok.ensures.gives
    (rose_earlier m0 m1 m2 c.read_signed.ensures.never_fall.1) (rose_earlier f0 f1 f2 c.read_signed.ensures.never_fall.0) (subst P (sym c.in-Tower.is) (rw c.read_signed.ensures.held at c.signed_answer-in-Tower.ensures.gives))

pub returns-in-Upper-clause-gives : goal.returns-in-Upper-clause-gives
returns-in-Upper-clause-gives g c =
    let held = g.S.Shelf.held c.args.shelf.now in
    let action = action_of c.args.task.now in
    let m0 = g.S.Shelf.misses c.args.shelf.now in
    let m1 = g.S.Shelf.misses c.read_signed.new.shelf in
    let m2 = g.S.Shelf.misses c.signed_answer-in-Upper.new.shelf in
    let f0 = g.S.Shelf.faults c.args.shelf.now in
    let f1 = g.S.Shelf.faults c.read_signed.new.shelf in
    let f2 = g.S.Shelf.faults c.signed_answer-in-Upper.new.shelf in
    let P : AnyField → Type 0 = λ f. GivesBy reply_of c.signed_answer-in-Upper.result (SignedAnswer held (record { signature = c.in-Ok.signed.signature; field = field_value f }) action) (Rose m1 m2) (Rose f1 f2) in
    after reply_of c.signed_answer-in-Upper.result (SignedIn held c.args.file.now) (λ signed. SignedAnswer held signed action) (signed_value c.in-Ok.signed)
    (Rose m0 m2) (Rose f0 f2) (Rose m1 m2) (Rose f1 f2) c.in-Ok.ensures.gives
    (rose_earlier m0 m1 m2 c.read_signed.ensures.never_fall.1) (rose_earlier f0 f1 f2 c.read_signed.ensures.never_fall.0) (subst P (sym c.in-Upper.is) (rw c.read_signed.ensures.held at c.signed_answer-in-Upper.ensures.gives))
