use Rattle.std.proofs.Common.{sym, subst, ◌∙◌, ◌+◌, false, Bool, List}
use Rattle.std.proofs.lemmas.Bool.{false≢true}
use Rattle.plain_runs.specs.private.Cycle.{AreFed, AreOnlyFed, HaveAsked}
use Rattle.plain_runs.proofs.JobRunLemmas.{next_reached, inputs_all, only_fed}
use Rattle.plain_runs.proofs.plain.next_cycle.Goals as goal

pub returns-then-is_cycle-clause-reached : goal.returns-then-is_cycle-clause-reached
returns-then-is_cycle-clause-reached g c =
    let words = c.args.words.now in
    let xs = c.args.xs.now in
    let feeds = c.args.feeds.now in
    let H : List Bool → Type 0 = HaveAsked false words xs in
    let F : List Bool → Type 0 = AreFed words xs feeds (c.args.t + 1) in
    next_reached (g.F.Ring.degree c.args.field.now) (g.F.Ring.product c.args.field.now) c.args.net.now words c.args._output.now feeds xs c.args.t c.args.before.now c.in_ok-bits.bits.items c.requires.reached c.in_ok-bits.ensures.consistent c.in_ok-bits.ensures.inputs c.in_ok-bits.ensures.latches
    (subst H c.deref.ensures.value (c.is_cycle.ensures.inputs c.if-is_cycle.true)) (subst F c.deref.ensures.value (c.is_cycle.ensures.fed c.if-is_cycle.true))

pub returns-else-is_cycle-clause-complete : goal.returns-else-is_cycle-clause-complete
returns-else-is_cycle-clause-complete g c = λ job.
    let words = c.args.words.now in
    let xs = c.args.xs.now in
    let feeds = c.args.feeds.now in
    let H : List Bool → Type 0 = HaveAsked false words xs in
    let F : List Bool → Type 0 = AreOnlyFed words xs feeds (c.args.t + 1) in
    let k = g.F.Ring.degree c.args.field.now in
    let product = g.F.Ring.product c.args.field.now in
    let inputs = inputs_all k product c.args.net.now words c.args._output.now feeds xs job c.requires.elements (c.args.t + 1) c.in_ok-bits.bits.items c.in_ok-bits.ensures.inputs in
    let fed = only_fed k product c.args.net.now words c.args._output.now feeds xs job c.requires.elements (c.args.t + 1) c.in_ok-bits.bits.items c.in_ok-bits.ensures.inputs c.requires.long in
    absurd (false≢true (sym c.if-is_cycle.false ∙ c.is_cycle.ensures.complete (subst H (sym c.deref.ensures.value) inputs) (subst F (sym c.deref.ensures.value) fed)))
