use Rattle.std.proofs.Common.{◌∙◌, ap, subst}
use Rattle.poly_mixed.specs.Polynomial.{Polynomial}
use Rattle.poly_mixed.specs.Slots.{AreSlotsOf, term_in}
use Rattle.poly_mixed.proofs.PlaceLemmas.{are_slots, term_is, has_place}
use Rattle.poly_mixed.proofs.poly.Poly.term_at.Goals as goal

pub returns-in_err-mono-clause-slots : goal.returns-in_err-mono-clause-slots
returns-in_err-mono-clause-slots c =
    let P : Polynomial → Type 0 = λ p. AreSlotsOf p.terms p.slots in
    subst P c.self.view_is (are_slots c.self.inside.map.entries c.self.inside.index c.self.invariant)

pub returns-in_err-place-clause-slots : goal.returns-in_err-place-clause-slots
returns-in_err-place-clause-slots c =
    let P : Polynomial → Type 0 = λ p. AreSlotsOf p.terms p.slots in
    subst P c.self.view_is (are_slots c.self.inside.map.entries c.self.inside.index c.self.invariant)

pub returns-clause-slots : goal.returns-clause-slots
returns-clause-slots c =
    let P : Polynomial → Type 0 = λ p. AreSlotsOf p.terms p.slots in
    subst P c.self.view_is (are_slots c.self.inside.map.entries c.self.inside.index c.self.invariant)

pub returns-in_err-place-clause-term : goal.returns-in_err-place-clause-term
returns-in_err-place-clause-term c = has_place c.self.inside.map.entries c.self.inside.index c.self.invariant c.args.slot c.in_ok-mono.mono.now c.in_ok-mono.ensures c.in_err-place.ensures.value

pub returns-clause-term : goal.returns-clause-term
returns-clause-term c =
    term_is c.self.inside.map.entries c.self.inside.index c.self.invariant c.args.slot c.in_ok-mono.mono.now c.in_ok-place.place.now c.in_ok-mono.ensures c.in_ok-place.ensures.value
    ∙ ap (λ (p : Polynomial). term_in p c.args.slot) c.self.view_is
