use Rattle.std.proofs.Common.{◌∙◌, ◌<◌, ◌^◌, ap, sym, subst, ℕ, List, Vec, length, map, string_bytes, Ok, Err}
use Rattle.std.specs.declared.alloc.Global.{Global}
use Rattle.lists.specs.Lists.{Has}
use Rattle.outcome.specs.Outcome.{Within}
use Rattle.poly_mixed.specs.Labels.{Labelling}
use Rattle.job_words.specs.Stop.{GivesBy}
use Rattle.job_words.specs.declared.fault.Fault.TheVariants.{Value}
use Rattle.job_words.proofs.StepLemmas.{after, stops}
use Rattle.job_input.specs.Labelling.{labels_of}
use Rattle.job_input.specs.Setting.{setting_value}
use Rattle.answer_core.specs.Reply.{reply_of}
use Rattle.answer_polynomials.specs.Values.{ValuesOf}
use Rattle.answer_polynomials.specs.Eval.{EvalAt}
use Rattle.answer_polynomials.proofs.ElementLemmas.{values_fit}
use Rattle.answer_polynomials.proofs.eval.over.Goals as goal

pub at-requires-clause-long : goal.at-requires-clause-long
at-requires-clause-long g c =
    let fit = values_fit (g.F.Ring.degree c.args.field.now) c.words.result (map string_bytes c.args.words.now.values.now) c.in-Ok.xs.items c.in-Ok.ensures in
    ap (λ (xs : List ℕ). length xs) c.deref.ensures.value ∙ fit.0 ∙ c.words.ensures.value

pub at-requires-clause-elements : goal.at-requires-clause-elements
at-requires-clause-elements g c =
    let degree = g.F.Ring.degree c.args.field.now in
    let fit = values_fit degree c.words.result (map string_bytes c.args.words.now.values.now) c.in-Ok.xs.items c.in-Ok.ensures in
    let P : List ℕ → Type 0 = λ xs. (x : ℕ) → Has xs x → x < 2 ^ degree in
    subst P (sym c.deref.ensures.value) fit.1

pub returns-in-Ok : goal.returns-in-Ok
returns-in-Ok g c =
    let degree = g.F.Ring.degree c.args.field.now in
    let setting = setting_value degree (g.F.Ring.product c.args.field.now) c.args.setting.now in
    let words = c.args.words.now in
    let values = map string_bytes words.values.now in
    let P : ℕ → Type 0 = λ n. ValuesOf degree n values (Ok c.in-Ok.xs.items) in
    let Q : List ℕ → Type 0 = λ xs. GivesBy reply_of c.at.result (EvalAt setting words.net.now c.args.netlist xs words.cycles) ⊥ ⊥ in
    after reply_of c.at.result (Within Value (ValuesOf degree (length (labels_of degree c.args.setting.now.signature.words).words) values)) (λ xs. EvalAt setting words.net.now c.args.netlist xs words.cycles) c.in-Ok.xs.items
    ⊥ ⊥ ⊥ ⊥ (subst P (c.words.ensures.value ∙ ap (λ (l : Labelling). length l.words) c.in_ok-labels.ensures) c.in-Ok.ensures) (λ m. m) (λ f. f) (subst Q c.deref.ensures.value c.at.ensures)

pub returns-in-Err : goal.returns-in-Err
returns-in-Err g c =
    let degree = g.F.Ring.degree c.args.field.now in
    let setting = setting_value degree (g.F.Ring.product c.args.field.now) c.args.setting.now in
    let words = c.args.words.now in
    let values = map string_bytes words.values.now in
    let P : ℕ → Type 0 = λ n. GivesBy {X = Vec ℕ Global} (λ xs. xs.items) (Err c.in-Err.stop) (Within Value (ValuesOf degree n values)) ⊥ ⊥ in
    stops {X = Vec ℕ Global} (λ xs. xs.items) reply_of c.in-Err.stop (Within Value (ValuesOf degree (length (labels_of degree c.args.setting.now.signature.words).words) values)) (λ xs. EvalAt setting words.net.now c.args.netlist xs words.cycles)
    ⊥ ⊥ ⊥ ⊥ (λ m. m) (λ f. f) (subst P (c.words.ensures.value ∙ ap (λ (l : Labelling). length l.words) c.in_ok-labels.ensures) c.in-Err.ensures)
