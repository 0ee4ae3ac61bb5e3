use Rattle.net_words.specs.Binding.{BoundNet}
use Rattle.job_words.proofs.StepLemmas.{after, stops}
use Rattle.job_input.specs.Setting.{setting_value}
use Rattle.answer_core.specs.Reply.{reply_of}
use Rattle.answer_core.specs.Simpler.{SimplerUnrolledIn}
use Rattle.answer_polynomials.specs.Check.{CheckReply}
use Rattle.answer_polynomials.proofs.check.unrolled.Goals as goal

pub reply-requires-clause-taken : goal.reply-requires-clause-taken
reply-requires-clause-taken g c = c.in-Ok.ensures.taken (g.F.Ring.degree c.args.field.now) c.args.setting.now c.requires.taken

pub returns-in-Ok : goal.returns-in-Ok
returns-in-Ok g c =
    let setting = setting_value (g.F.Ring.degree c.args.field.now) (g.F.Ring.product c.args.field.now) c.args.setting.now in
    let words = c.args.words.now in
    after reply_of c.reply.result (SimplerUnrolledIn words.net.now c.args.netlist words.cycles words.simplify) (λ circuit. CheckReply setting circuit c.args.spec.now words.terms) c.in-Ok.circuit
    ⊥ ⊥ ⊥ ⊥ c.in-Ok.ensures.gives (λ m. m) (λ f. f) c.reply.ensures

pub returns-in-Err : goal.returns-in-Err
returns-in-Err g c =
    let setting = setting_value (g.F.Ring.degree c.args.field.now) (g.F.Ring.product c.args.field.now) c.args.setting.now in
    let words = c.args.words.now in
    stops {X = BoundNet} (λ circuit. circuit) reply_of c.in-Err.stop (SimplerUnrolledIn words.net.now c.args.netlist words.cycles words.simplify) (λ circuit. CheckReply setting circuit c.args.spec.now words.terms) ⊥ ⊥ ⊥ ⊥ (λ m. m) (λ f. f) c.in-Err.ensures.gives
