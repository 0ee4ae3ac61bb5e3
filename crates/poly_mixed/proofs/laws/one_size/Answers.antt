use Rattle.gf_field.specs.laws.RootsLaws.{HasFewRoots-from_field}
use Rattle.poly_mixed.proofs.FieldLaws.{field_of}
use Rattle.poly_mixed.proofs.RootLemmas.{independent}
use Rattle.poly_mixed.proofs.UniquenessLemmas.{unique, one_size}
use Rattle.poly_mixed.proofs.laws.one_size.Goals as goal

pub returns : goal.returns
returns g c =
    let ring = g.met.F.Ring.laws c.args._field.now in
    let field = g.met.F.Field.no_zero_divisors c.args._field.now in
    let f = field_of _ _ ring field in
    one_size (unique f (independent f (HasFewRoots-from_field _ _ ring field)))
