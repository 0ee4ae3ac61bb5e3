use Rattle.poly_mixed.proofs.FieldLaws.{field_of}
use Rattle.poly_mixed.proofs.ValueLemmas.{one_element}
use Rattle.stage_model.proofs.CutPolyLemmas.{chosen}
use Rattle.plain_runs.proofs.cut_terms.choose.Goals as goal

pub scaled_bit-requires : goal.scaled_bit-requires
scaled_bit-requires g c = one_element (field_of _ _ (g.met.F.Ring.laws c.args.field.now) (g.met.F.Field.no_zero_divisors c.args.field.now))

pub returns-clause-choice : goal.returns-clause-choice
returns-clause-choice g c =
    chosen (field_of _ _ (g.met.F.Ring.laws c.args.field.now) (g.met.F.Field.no_zero_divisors c.args.field.now)) c.args.rank c.args.zero.terms c.args.one.terms
    c.add_into.new.self.terms c.in_ok-bit.bit.terms c.in_ok-product.product.terms c.add_into-2.new.self.terms
    c.requires.zero c.requires.one c.in_ok-add_into.ensures.values c.in_ok-bit.ensures.values c.in_ok-product.ensures.values c.in_ok-add_into-2.ensures.values
