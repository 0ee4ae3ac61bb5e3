use Rattle.poly_mixed.proofs.FieldLaws.{field_of}
use Rattle.poly_mixed.proofs.SimpleLemmas.{chosen}
use Rattle.poly_mixed.proofs.table.choose.Goals as goal

pub returns-clause-choice : goal.returns-clause-choice
returns-clause-choice g c =
    chosen (field_of _ _ (g.met.F.Ring.laws c.args.field.now) (g.met.F.Field.no_zero_divisors c.args.field.now)) c.args.rank c.args.low.now.terms c.args.high.now.terms c.add_into.new.self.terms c.in_ok-out.out.terms c.add_into-2.new.self.terms
    c.in_ok-add_into.ensures.reduced c.in_ok-add_into.ensures.values c.in_ok-out.ensures.values c.in_ok-add_into-2.ensures.values
