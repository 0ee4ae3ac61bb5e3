use Rattle.net_words.specs.Binding.{BoundNet}
use Rattle.job_words.proofs.StepLemmas.{after, stops}
use Rattle.job_input.specs.Setting.{setting_value}
use Rattle.answer_core.specs.Reply.{reply_of}
use Rattle.answer_core.specs.Simpler.{SimplerUnrolledIn}
use Rattle.answer_polynomials.specs.Same.{SameSecond}
use Rattle.answer_polynomials.proofs.same.unrolled.Goals as goal

pub second_unrolled-requires-clause-first : goal.second_unrolled-requires-clause-first
second_unrolled-requires-clause-first g c = c.in-Ok.ensures.taken (g.F.Ring.degree c.args.field.now) c.args.setting.now c.requires.first

pub returns-in-Ok : goal.returns-in-Ok
returns-in-Ok g c =
    let setting = setting_value (g.F.Ring.degree c.args.field.now) (g.F.Ring.product c.args.field.now) c.args.setting.now in
    let words = c.args.words.now in
    after reply_of c.second_unrolled.result (SimplerUnrolledIn words.net.now c.args.netlist words.cycles words.simplify) (λ circuit. SameSecond setting circuit words.other.now c.args.second words.terms words.cycles words.simplify) c.in-Ok.circuit
    ⊥ ⊥ ⊥ ⊥ c.in-Ok.ensures.gives (λ m. m) (λ f. f) c.second_unrolled.ensures

pub returns-in-Err : goal.returns-in-Err
returns-in-Err g c =
    let setting = setting_value (g.F.Ring.degree c.args.field.now) (g.F.Ring.product c.args.field.now) c.args.setting.now in
    let words = c.args.words.now in
    stops {X = BoundNet} (λ circuit. circuit) reply_of c.in-Err.stop (SimplerUnrolledIn words.net.now c.args.netlist words.cycles words.simplify) (λ circuit. SameSecond setting circuit words.other.now c.args.second words.terms words.cycles words.simplify) ⊥ ⊥ ⊥ ⊥ (λ m. m) (λ f. f) c.in-Err.ensures.gives
