use Rattle.std.proofs.Common.{subst}
use Rattle.poly_mixed.specs.Polynomial.{Polynomial}
use Rattle.poly_mixed.specs.Slots.{AreSlotsOf}
use Rattle.poly_mixed.proofs.PlaceLemmas.{are_slots}
use Rattle.poly_mixed.proofs.poly.Poly.terms_of.Goals as goal

pub returns-clause-slots : goal.returns-clause-slots
returns-clause-slots c =
    let P : Polynomial → Type 0 = λ p. AreSlotsOf p.terms p.slots in
    subst P c.self.view_is (are_slots c.self.inside.map.entries c.self.inside.index c.self.invariant)
