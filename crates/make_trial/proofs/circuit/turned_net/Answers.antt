use Rattle.std.proofs.Common.{◌≡◌, ◌∙◌, ap, sym, subst, ℕ, ◌<◌, ◌^◌, List, length, Some, Err}
use Rattle.std.specs.Prelude.{slice_get}
use Rattle.lists.specs.Lists.{Has}
use Rattle.gf_field.specs.Ring2k.{degree_of, modulus_of}
use Rattle.irreducible.specs.Proved.{ring_of}
use Rattle.mult_gen.specs.Form.{HasPolyForm, made_mastrovito}
use Rattle.net_core.specs.GateValue.{GateValue}
use Rattle.net_core.specs.NetList.{NetList}
use Rattle.net_core.specs.Turned.{turned}
use Rattle.net_signature.specs.Signature.{SignatureValue}
use Rattle.net_words.specs.declared.word.WordText.{WordText}
use Rattle.make_trial.specs.Trial.{trial_index, trial_place, trial_words}
use Rattle.make_trial.proofs.NameLemmas.{trial_wide}
use Rattle.make_trial.proofs.NetLemmas.{gate_has, trial_form, trial_is}
use Rattle.make_trial.proofs.circuit.turned_net.Goals as goal

pub mastrovito-requires-clause-wide : goal.mastrovito-requires-clause-wide
mastrovito-requires-clause-wide c = λ word has unfed.
    let P : List WordText → Type 0 = λ ws. Has ws word in
    trial_wide (degree_of (ring_of c.args.ring.now)) word (subst P (ap (λ (s : SignatureValue). s.words) c.requires) has)

pub mutate-requires : goal.mutate-requires
mutate-requires c =
    let k = degree_of (ring_of c.args.ring.now) in
    let g = modulus_of (ring_of c.args.ring.now) in
    let number = c.args.number in
    let net : c.in-Ok.net ≡ made_mastrovito k g (trial_words k) = c.in-Ok.ensures.made ∙ ap (λ (s : SignatureValue). made_mastrovito k g s.words) c.requires in
    let place : c.trial_place-position.result ≡ trial_place k number = c.trial_place-position.ensures.place ∙ ap (λ n. trial_place n number) c.k.ensures in
    let index : c.trial_index-index.result ≡ trial_index k number = c.trial_index-index.ensures.index ∙ ap (λ n. trial_index n number) c.k-2.ensures in
    let N : NetList → Type 0 = λ n. (h : GateValue) × (slice_get n.gates c.trial_place-position.result ≡ Some h) × (c.trial_index-index.result < 2 ^ length h.inputs) in
    let P : ℕ → Type 0 = λ p. (h : GateValue) × (slice_get (made_mastrovito k g (trial_words k)).gates p ≡ Some h) × (c.trial_index-index.result < 2 ^ length h.inputs) in
    let I : ℕ → Type 0 = λ i. (h : GateValue) × (slice_get (made_mastrovito k g (trial_words k)).gates (trial_place k number) ≡ Some h) × (i < 2 ^ length h.inputs) in
    subst N (sym net) (subst P (sym place) (subst I (sym index) (gate_has k g c.args.ring.now.ring.fits number)))

pub unreachable-requires : goal.unreachable-requires
unreachable-requires c =
    let k = degree_of (ring_of c.args.ring.now) in
    let g = modulus_of (ring_of c.args.ring.now) in
    let P : SignatureValue → Type 0 = λ s. HasPolyForm 2 s in
    c.in-Err-Unfit.ensures.unfit (ap Err c.in-Err-Unfit.field-0-is) (subst P (sym c.requires) (trial_form k g c.args.ring.now.ring.fits.small))

pub returns-in-Ok : goal.returns-in-Ok
returns-in-Ok c =
    let k = degree_of (ring_of c.args.ring.now) in
    let g = modulus_of (ring_of c.args.ring.now) in
    let number = c.args.number in
    let net : c.in-Ok.net ≡ made_mastrovito k g (trial_words k) = c.in-Ok.ensures.made ∙ ap (λ (s : SignatureValue). made_mastrovito k g s.words) c.requires in
    let place : c.trial_place-position.result ≡ trial_place k number = c.trial_place-position.ensures.place ∙ ap (λ n. trial_place n number) c.k.ensures in
    let index : c.trial_index-index.result ≡ trial_index k number = c.trial_index-index.ensures.index ∙ ap (λ n. trial_index n number) c.k-2.ensures in
    c.mutate.ensures ∙ ((λ i. turned (net i) (place i) (index i)) ∙ trial_is k g c.args.ring.now.ring.fits number)
