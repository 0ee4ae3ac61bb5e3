use Rattle.std.proofs.Common.{◌≡◌, length, arith}
use Rattle.std.proofs.lemmas.List.{length-take-le}
use Rattle.irreducible.specs.laws.SpanLaws.{combination_below}
use Rattle.gf_basis.specs.BasisParts.{elements_of}
use Rattle.gf_basis.proofs.bases.Basis.element_of.Goals as goal

pub returns-clause-element : goal.returns-clause-element
returns-clause-element c =
    let count : length (elements_of c.args.self.now) ≡ c.args.self.now.count = length-take-le _ _ (omega (arith, c.args.self.now.few)) in
    rw (c.combined.ensures, count) (combination_below (elements_of c.args.self.now) c.args.self.now.count c.args.bits c.args.self.now.inside)
