use Rattle.std.proofs.Common.{◌≡◌, sym, subst, Some}
use Rattle.std.specs.Prelude.{slice_get}
use Rattle.std.proofs.lemmas.Option.{IfSome_then}
use Rattle.lists.specs.Lists.{Has}
use Rattle.compose_model.specs.NamedWord.{NamedWord}
use Rattle.compose_wiring.specs.private.Names.{actuals_by}
use Rattle.compose_wiring.specs.private.Plain.{CandidateValue, IsFirstOn}
use Rattle.compose_wiring.proofs.ListLemmas.{none_then}
use Rattle.compose_wiring.proofs.row.feed_of.Goals as goal

pub returns-in_ok-feed-in-Some-clause-some : goal.returns-in_ok-feed-in-Some-clause-some
returns-in_ok-feed-in-Some-clause-some c =
    IfSome_then c.in_ok-feed-in-Some.feed c.in_ok-feed-in-Some.ensures.some (λ feed first at got.
    let here : slice_get c.args.placed.now.words c.args.word ≡ Some c.word.result.now = c.word.ensures in
    let same : c.word.result.now ≡ at = cc in
    let P : NamedWord → Type 0 = λ w. IsFirstOn c.args.candidates.now c.in-Some.nets.now w.basis feed in
    record { nets = c.in-Some.nets.now; actuals = c.in-Some.ensures.some at got; first = subst P same first })

pub returns-in_ok-feed-in-Some-clause-none : goal.returns-in_ok-feed-in-Some-clause-none
returns-in_ok-feed-in-Some-clause-none c =
    none_then c.in_ok-feed-in-Some.feed c.in_ok-feed-in-Some.ensures.none (λ none at feed got found.
    let here : slice_get c.args.placed.now.words c.args.word ≡ Some c.word.result.now = c.word.ensures in
    let same : c.word.result.now ≡ at = cc in
    let mine : actuals_by c.args.placed.now.connections at.nets ≡ Some c.in-Some.nets.now = c.in-Some.ensures.some at got in
    let theirs : actuals_by c.args.placed.now.connections at.nets ≡ Some found.nets = found.actuals in
    let nets : found.nets ≡ c.in-Some.nets.now = cc in
    let P : CandidateValue → Type 0 = λ x. Has c.args.candidates.now x in
    let is : ◌≡◌ {A = CandidateValue} (record { feed = feed; nets = found.nets; basis = at.basis }) (record { feed = feed; nets = c.in-Some.nets.now; basis = c.word.result.now.basis }) = λ i. record { feed = feed; nets = nets i; basis = NamedWord.basis (sym same i) } in
    none feed (subst P is found.has))
