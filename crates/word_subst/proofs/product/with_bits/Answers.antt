use Rattle.poly_mixed.proofs.FieldLaws.{field_of}
use Rattle.poly_mixed.proofs.SimpleLemmas.{bits_monomial, bits_polynomial}
use Rattle.poly_mixed.proofs.ValueLemmas.{one_element}
use Rattle.word_subst.proofs.MultiplierLemmas.{chosen}
use Rattle.word_subst.proofs.product.with_bits.Goals as goal

pub term-requires : goal.term-requires
term-requires g c =
    let f = field_of _ _ (g.met.F.Ring.laws c.args.field.now) (g.met.F.Field.no_zero_divisors c.args.field.now) in
    record { monomial = bits_monomial f c.args.bits.now c.in_ok-mono.mono c.in_ok-mono.ensures c.requires.rising; element = one_element f }

pub mul-requires-clause-other_over : goal.mul-requires-clause-other_over
mul-requires-clause-other_over g c =
    let f = field_of _ _ (g.met.F.Ring.laws c.args.field.now) (g.met.F.Field.no_zero_divisors c.args.field.now) in
    (bits_polynomial f c.args.bits.now c.in_ok-mono.mono 1 c.in_ok-ones.ones c.in_ok-mono.ensures c.requires.rising (one_element f) c.in_ok-ones.ensures).reduced

pub returns : goal.returns
returns g c =
    let f = field_of _ _ (g.met.F.Ring.laws c.args.field.now) (g.met.F.Field.no_zero_divisors c.args.field.now) in
    let ones = bits_polynomial f c.args.bits.now c.in_ok-mono.mono 1 c.in_ok-ones.ones c.in_ok-mono.ensures c.requires.rising (one_element f) c.in_ok-ones.ensures in
    chosen f c.args.product.now.terms c.args.bits.now c.in_ok-ones.ones.terms c.in_ok-poly.poly.terms c.requires.product c.in_ok-poly.ensures.reduced c.in_ok-poly.ensures.values ones.values
