use Rattle.std.proofs.Common.{take}
use Rattle.gf_field.specs.laws.RootsLaws.{HasFewRoots-from_field}
use Rattle.poly_mixed.specs.Polynomial.{value}
use Rattle.lift_table.specs.Table.{row_of}
use Rattle.poly_mixed.proofs.FieldLaws.{field_of}
use Rattle.poly_mixed.proofs.RootLemmas.{independent}
use Rattle.poly_mixed.proofs.UniquenessLemmas.{unique}
use Rattle.lift_table.proofs.PolynomialLemmas.{same_value}
use Rattle.lift_table.proofs.laws.one_table_polynomial.Goals as goal

pub returns : goal.returns
returns g c = λ words table ts us first second.
    let k = g.F.Ring.degree c.args._field.now in
    let mul = g.F.Ring.product c.args._field.now in
    let ring = g.met.F.Ring.laws c.args._field.now in
    let field = g.met.F.Field.no_zero_divisors c.args._field.now in
    let f = field_of k mul ring field in
    unique f (independent f (HasFewRoots-from_field k mul ring field)) ts us first.reduced second.reduced (λ p at. same_value table (row_of k (take words p.words)) (value mul p ts) (value mul p us) (first.values p at) (second.values p at))
