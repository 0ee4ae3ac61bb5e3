use Rattle.std.proofs.Common.{◌≡◌, ◌∙◌, ap, sym, arith, length}
use Rattle.std.proofs.lemmas.List.{length-take-le, get_or-take}
use Rattle.gf_field.specs.Trace.{frobenius}
use Rattle.gf_basis.specs.BasisParts.{elements_of, duals_of}
use Rattle.gf_basis.proofs.BasisLaws.{linear_bit}
use Rattle.gf_basis.proofs.bases.Basis.linear_of.Goals as goal

pub returns-clause-bit : goal.returns-clause-bit
returns-clause-bit g c = λ x bits a.
    let count : length (elements_of c.args.self.now) ≡ c.args.self.now.count = length-take-le _ _ (omega (arith, c.args.self.now.few)) in
    linear_bit _ _ (g.met.F.Ring.laws c.args.field.now) (g.met.F.Field.no_zero_divisors c.args.field.now) (elements_of c.args.self.now) (duals_of c.args.self.now) c.requires.over.elements.size c.requires.over.dual
    c.args.i x bits c.conjugates.result c.requires.place
    (λ j l. c.conjugates.ensures.squares j l ∙ ap (frobenius (g.F.Ring.product c.args.field.now) j) (sym (get_or-take c.args.self.now.count c.args.self.now.duals c.args.i 0 (omega (arith, count, c.requires.place, c.requires.over.elements.size))))) a
