use Rattle.std.proofs.Common.{map, subst, sym}
use Rattle.outcome.specs.Outcome.{Exactly}
use Rattle.gf_basis.specs.BasisParts.{elements_of}
use Rattle.poly_mixed.specs.Labels.{Labelling}
use Rattle.poly_mixed.specs.Polynomial.{Terms}
use Rattle.poly_mixed.specs.Text.{HasNames, HasWordNames}
use Rattle.block_compose.specs.Composed.{hierarchy_of}
use Rattle.job_words.proofs.StepLemmas.{stops}
use Rattle.job_input.specs.Setting.{setting_value}
use Rattle.answer_core.specs.Reply.{reply_of, prints}
use Rattle.answer_composition.specs.Compose.{ComposeOf}
use Rattle.answer_composition.proofs.ComposeLemmas.{based, composable, composed_named, composed_words_named}
use Rattle.answer_composition.proofs.ComposeStopLemmas.{compose_stops, named_stage}
use Rattle.answer_composition.proofs.compose.reply.Goals as goal

pub compose-requires : goal.compose-requires
compose-requires g c = composable (g.F.Ring.degree c.args.field.now) (g.F.Ring.product c.args.field.now) c.args.setting.now c.args.design.now c.args.bases.now c.requires.ready c.requires.bases c.requires.top

pub polynomial_line-requires-clause-named : goal.polynomial_line-requires-clause-named
polynomial_line-requires-clause-named g c =
    let P : Labelling → Type 0 = λ l. HasNames l c.in-Ok.poly.terms in
    subst P (sym c.in_ok-labels.ensures) (composed_named (g.F.Ring.degree c.args.field.now) (g.F.Ring.product c.args.field.now) c.args.setting.now c.args.design.now c.args.bases.now c.requires.ready c.requires.bases c.args.bound c.in-Ok.poly.terms c.in-Ok.ensures.polynomial)

pub polynomial_line-requires-clause-words_named : goal.polynomial_line-requires-clause-words_named
polynomial_line-requires-clause-words_named g c =
    let P : Labelling → Type 0 = λ l. HasWordNames l c.in-Ok.poly.terms in
    subst P (sym c.in_ok-labels.ensures) (composed_words_named (g.F.Ring.degree c.args.field.now) (g.F.Ring.product c.args.field.now) c.args.setting.now c.args.design.now c.args.bases.now c.requires.ready c.requires.bases c.args.bound c.in-Ok.poly.terms c.in-Ok.ensures.polynomial)

pub composition_stop-requires-clause-named : goal.composition_stop-requires-clause-named
composition_stop-requires-clause-named g c =
    let k = g.F.Ring.degree c.args.field.now in
    let mul = g.F.Ring.product c.args.field.now in
    let signature = c.args.setting.now.signature in
    named_stage k mul (hierarchy_of c.args.design.now signature c.args.bases.now) (based k mul c.args.setting.now c.args.design.now c.args.bases.now c.requires.ready c.requires.bases) signature c.args.bound c.in-Err.fault c.in-Err.ensures.refusal

pub returns : goal.returns
returns g c =
    let setting = setting_value (g.F.Ring.degree c.args.field.now) (g.F.Ring.product c.args.field.now) c.args.setting.now in
    let design = c.args.design.now in
    let lists = map (map elements_of) c.args.bases.now in
    let bound = c.args.bound in
    let view : Terms → Terms = λ ts. ts in
    stops view reply_of c.composition_stop.result (ComposeOf setting design lists bound) (λ ts. Exactly (prints setting ts)) ⊥ ⊥ ⊥ ⊥ (λ m. m) (λ f. f)
    (compose_stops view setting design lists bound c.in-Err.fault c.composition_stop.result c.in-Err.ensures.refusal c.composition_stop.ensures)
