use Rattle.std.proofs.Common.{◌∙◌, ◌+◌, ap, sym, refl, subst, ℕ, List, Vec, map, string_bytes, Ok, Err}
use Rattle.std.specs.declared.alloc.Global.{Global}
use Rattle.outcome.specs.Outcome.{Within}
use Rattle.job_words.specs.Stop.{GivesBy}
use Rattle.job_words.specs.declared.fault.Fault.TheVariants.{Value}
use Rattle.job_words.specs.declared.stop.Stop.{Stop}
use Rattle.job_words.specs.declared.value_fault.ValueFault.TheVariants.{TooLarge}
use Rattle.answer_polynomials.specs.Values.{ElementOf, ElementsOf}
use Rattle.answer_polynomials.proofs.ElementLemmas.{rest_end, rest_fails, rest_step}
use Rattle.answer_polynomials.proofs.values.read_elements.Goals as goal

pub returns-in-None : goal.returns-in-None
returns-in-None g c =
    let degree = g.F.Ring.degree c.args.field.now in
    let values = c.args.values.now in
    let i = c.loop-i.i in
    let fault = TooLarge (i + 1) in
    let P : Stop → Type 0 = λ stop. GivesBy {X = Vec ℕ Global} (λ xs. xs.items) (Err stop) (Within Value (ElementsOf degree 1 (map string_bytes values))) ⊥ ⊥ in
    let Q : List ℕ → Type 0 = λ bytes. ElementOf degree (i + 1) bytes (Err fault) in
    let one = subst Q (c.as_str.ensures.value ∙ ap string_bytes c.index-values-i.is) (c.in-None.ensures.none, refl) in
    subst P (sym c.refused.ensures) ((fault, c.loop-i.invariant (Err fault) (rest_fails string_bytes degree values i c.index-values-i.result c.loop-i-test.true c.loop-i.elements.items fault one), refl), λ is. is)

pub loop-i-preserved : goal.loop-i-preserved
loop-i-preserved g c = λ outcome rest.
    let degree = g.F.Ring.degree c.args.field.now in
    let values = c.args.values.now in
    let i = c.loop-i.i in
    let Q : List ℕ → Type 0 = λ bytes. ElementOf degree (i + 1) bytes (Ok c.in-Some.element) in
    let one = subst Q (c.as_str.ensures.value ∙ ap string_bytes c.index-values-i.is) c.in-Some.ensures.found in
    c.loop-i.invariant outcome (rest_step string_bytes degree values i c.index-values-i.result c.loop-i-test.true c.loop-i.elements.items c.push.new.self.items c.in-Some.element c.in_ok-push-in-Some.ensures.items one outcome rest)

pub returns : goal.returns
returns g c =
    c.loop-i.invariant (Ok c.loop-i.elements.items) (rest_end string_bytes (g.F.Ring.degree c.args.field.now) (c.loop-i.i + 1) c.loop-i.elements.items c.args.values.now c.loop-i.i c.loop-i-test.false)
