use Rattle.net_words.specs.Binding.{BoundNet}
use Rattle.job_words.proofs.StepLemmas.{after, stops}
use Rattle.job_input.specs.Setting.{setting_value}
use Rattle.answer_core.specs.Reply.{reply_of}
use Rattle.answer_core.specs.Simpler.{SimplerUnrolledIn}
use Rattle.answer_polynomials.specs.Same.{SameReply}
use Rattle.answer_polynomials.proofs.same.second_unrolled.Goals as goal

pub reply-requires-clause-second : goal.reply-requires-clause-second
reply-requires-clause-second g c = c.in-Ok.ensures.taken (g.F.Ring.degree c.args.field.now) c.args.setting.now c.requires.second

pub returns-in-Ok : goal.returns-in-Ok
returns-in-Ok g c =
    let setting = setting_value (g.F.Ring.degree c.args.field.now) (g.F.Ring.product c.args.field.now) c.args.setting.now in
    let words = c.args.words.now in
    after reply_of c.reply.result (SimplerUnrolledIn words.other.now c.args.second words.cycles words.simplify) (λ more. SameReply setting c.args.circuit.now more words.terms) c.in-Ok.more
    ⊥ ⊥ ⊥ ⊥ c.in-Ok.ensures.gives (λ m. m) (λ f. f) c.reply.ensures

pub returns-in-Err : goal.returns-in-Err
returns-in-Err g c =
    let setting = setting_value (g.F.Ring.degree c.args.field.now) (g.F.Ring.product c.args.field.now) c.args.setting.now in
    let words = c.args.words.now in
    stops {X = BoundNet} (λ circuit. circuit) reply_of c.in-Err.stop (SimplerUnrolledIn words.other.now c.args.second words.cycles words.simplify) (λ more. SameReply setting c.args.circuit.now more words.terms) ⊥ ⊥ ⊥ ⊥ (λ m. m) (λ f. f) c.in-Err.ensures.gives
