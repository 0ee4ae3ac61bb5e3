use Rattle.std.proofs.Common.{◌≡◌, ◌∙◌, ap, sym, subst, List, [], ◌∷◌, Some}
use Rattle.std.specs.Prelude.{slice_get}
use Rattle.std.proofs.lemmas.Option.{IfSome_then}
use Rattle.lists.specs.Lists.{Has}
use Rattle.net_blif.specs.Statement.{Token}
use Rattle.compose_model.specs.NamedWord.{outputs_among, NamedWord}
use Rattle.compose_wiring.specs.private.Plain.{CandidateValue, IsFirstOn}
use Rattle.compose_wiring.proofs.ListLemmas.{none_then}
use Rattle.compose_wiring.proofs.wired.output_feed.Goals as goal

pub returns-clause-some : goal.returns-clause-some
returns-clause-some c =
    IfSome_then c.in_ok-feed.feed c.in_ok-feed.ensures.some (λ feed first.
    let at : slice_get c.args.top.now c.output_place.result ≡ Some c.output_place.ensures.0 = c.output_place.ensures.1 in
    let here : slice_get c.args.top.now c.output_place.result ≡ Some c.word_at-word.result.now = c.word_at-word.ensures in
    let same : c.output_place.ensures.0 ≡ c.word_at-word.result.now = cc in
    let one : outputs_among c.args.top.now ≡ c.word_at-word.result.now ∷ [] = c.output_place.ensures.2 ∙ ap (λ (w : NamedWord). w ∷ []) same in
    let P : List Token → Type 0 = λ nets. IsFirstOn c.args.candidates.now nets c.word_at-word.result.now.basis feed in
    record { word = c.word_at-word.result.now; one = one; first = subst P (c.in_ok-nets.ensures ∙ c.nets.ensures) first })

pub returns-clause-none : goal.returns-clause-none
returns-clause-none c =
    none_then c.in_ok-feed.feed c.in_ok-feed.ensures.none (λ none feed is.
    let at : slice_get c.args.top.now c.output_place.result ≡ Some c.output_place.ensures.0 = c.output_place.ensures.1 in
    let one : outputs_among c.args.top.now ≡ c.output_place.ensures.0 ∷ [] = c.output_place.ensures.2 in
    let here : slice_get c.args.top.now c.output_place.result ≡ Some c.word_at-word.result.now = c.word_at-word.ensures in
    let theirs : outputs_among c.args.top.now ≡ is.word ∷ [] = is.one in
    let same : is.word ≡ c.word_at-word.result.now = cc in
    let nets = ap (λ (w : NamedWord). w.nets) same ∙ sym (c.in_ok-nets.ensures ∙ c.nets.ensures) in
    let P : CandidateValue → Type 0 = λ x. Has c.args.candidates.now x in
    let value : ◌≡◌ {A = CandidateValue} (record { feed = feed; nets = is.word.nets; basis = is.word.basis }) (record { feed = feed; nets = c.in_ok-nets.nets; basis = c.word_at-word.result.now.basis }) = λ i. record { feed = feed; nets = nets i; basis = NamedWord.basis (same i) } in
    none feed (subst P value is.has))
