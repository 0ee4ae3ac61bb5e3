use Rattle.std.proofs.Common.{not, ◌∙◌, ap}
use Rattle.std.specs.List.{list_any}
use Rattle.poly_mixed.specs.Monomial.{has_bit}
use Rattle.poly_mixed.specs.Polynomial.{Polynomial}
use Rattle.poly_mixed.proofs.PlaceLemmas.{has_is}
use Rattle.poly_mixed.proofs.poly.Poly.has.Goals as goal

pub returns : goal.returns
returns c =
    ap not c.is_empty.ensures ∙ has_is c.self.inside.map.entries c.self.inside.index c.self.invariant c.args.bit c.of.result.now c.of.ensures
    ∙ ap (λ (p : Polynomial). list_any (λ t. has_bit c.args.bit t.0) p.terms) c.self.view_is
