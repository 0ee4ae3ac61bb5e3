use Rattle.std.proofs.Common.{sym, subst, ◌∙◌, false, true, Bool, List}
use Rattle.std.proofs.lemmas.Bool.{false≢true}
use Rattle.plain_runs.specs.private.Cycle.{AreFed, AreOnlyFed, HaveAsked}
use Rattle.plain_runs.proofs.JobRunLemmas.{first_reached, inputs_all, states_all, only_fed}
use Rattle.plain_runs.proofs.plain.first_cycle.Goals as goal

pub returns-then-is_first-clause-reached : goal.returns-then-is_first-clause-reached
returns-then-is_first-clause-reached g c =
    let words = c.args.words.now in
    let xs = c.args.xs.now in
    let feeds = c.args.feeds.now in
    let H : List Bool → Type 0 = HaveAsked false words xs in
    let S : List Bool → Type 0 = HaveAsked true words xs in
    let F : List Bool → Type 0 = AreFed words xs feeds 0 in
    first_reached (g.F.Ring.degree c.args.field.now) (g.F.Ring.product c.args.field.now) c.args.net.now words c.args._output.now feeds xs c.in_ok-bits.bits.items c.requires.long c.requires.elements c.in_ok-bits.ensures.consistent c.in_ok-bits.ensures.inputs c.in_ok-bits.ensures.latches
    (subst H c.deref.ensures.value (c.is_first.ensures.inputs c.if-is_first.true)) (subst S c.deref.ensures.value (c.is_first.ensures.states c.if-is_first.true)) (subst F c.deref.ensures.value (c.is_first.ensures.fed c.if-is_first.true))

pub returns-else-is_first-clause-complete : goal.returns-else-is_first-clause-complete
returns-else-is_first-clause-complete g c = λ job.
    let words = c.args.words.now in
    let xs = c.args.xs.now in
    let feeds = c.args.feeds.now in
    let H : List Bool → Type 0 = HaveAsked false words xs in
    let S : List Bool → Type 0 = HaveAsked true words xs in
    let F : List Bool → Type 0 = AreOnlyFed words xs feeds 0 in
    let k = g.F.Ring.degree c.args.field.now in
    let product = g.F.Ring.product c.args.field.now in
    let inputs = inputs_all k product c.args.net.now words c.args._output.now feeds xs job c.requires.elements 0 c.in_ok-bits.bits.items c.in_ok-bits.ensures.inputs in
    let states = states_all k product c.args.net.now words c.args._output.now feeds xs job c.requires.elements 0 c.in_ok-bits.bits.items c.in_ok-bits.ensures.inputs c.in_ok-bits.ensures.latches in
    let fed = only_fed k product c.args.net.now words c.args._output.now feeds xs job c.requires.elements 0 c.in_ok-bits.bits.items c.in_ok-bits.ensures.inputs c.requires.long in
    absurd (false≢true (sym c.if-is_first.false ∙ c.is_first.ensures.complete (subst H (sym c.deref.ensures.value) inputs) (subst S (sym c.deref.ensures.value) states) (subst F (sym c.deref.ensures.value) fed)))
