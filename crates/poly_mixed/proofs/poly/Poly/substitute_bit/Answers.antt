use Rattle.poly_mixed.proofs.FieldLaws.{field_of}
use Rattle.std.proofs.Common.{sym, ◌∙◌, ap, subst, bit_xor}
use Rattle.std.proofs.lemmas.Result.{on_ok_weaker}
use Rattle.poly_mixed.specs.Polynomial.{Terms, IsReduced, value}
use Rattle.poly_mixed.proofs.CofactorLemmas.{reduced_cofactors, reduced_lacking, substituted}
use Rattle.poly_mixed.proofs.poly.Poly.substitute_bit.Goals as goal

pub mul-requires-clause-over : goal.mul-requires-clause-over
mul-requires-clause-over g c =
    let P : Terms → Type 0 = IsReduced (g.F.Ring.degree c.args.field.now) in
    subst P (sym c.in_ok-part.ensures.terms) (reduced_cofactors (g.F.Ring.degree c.args.field.now) c.args.bit c.args.self.now.terms c.requires.over)

pub add_into-requires-clause-over : goal.add_into-requires-clause-over
add_into-requires-clause-over g c =
    let P : Terms → Type 0 = IsReduced (g.F.Ring.degree c.args.field.now) in
    subst P (sym c.in_ok-part.ensures.left) (reduced_lacking (g.F.Ring.degree c.args.field.now) c.args.bit c.args.self.now.terms c.requires.over)

pub returns-clause-values : goal.returns-clause-values
returns-clause-values g c =
    let f = (field_of _ _ (g.met.F.Ring.laws c.args.field.now) (g.met.F.Field.no_zero_divisors c.args.field.now)) in
    let P : Terms → Type 0 = IsReduced (g.F.Ring.degree c.args.field.now) in
    let rp = subst P (sym c.in_ok-part.ensures.terms) (reduced_cofactors (g.F.Ring.degree c.args.field.now) c.args.bit c.args.self.now.terms c.requires.over) in
    on_ok_weaker c.add_into.result (λ sum.
    substituted f c.args.bit c.args.by.now.terms c.args.self.now.terms c.in_ok-part.part.terms c.in_ok-product.product.terms c.add_into.new.self.terms
    c.requires.over c.requires.by_over rp c.in_ok-part.ensures.terms c.in_ok-product.ensures.values
    (λ p at. sum p at ∙ ap (λ (ts : Terms). bit_xor (value (g.F.Ring.product c.args.field.now) p ts) (value (g.F.Ring.product c.args.field.now) p c.in_ok-product.product.terms)) c.in_ok-part.ensures.left))
    c.add_into.ensures.values
