use Rattle.std.proofs.lemmas.Result.{IfOk-weaker}
use Rattle.poly_mixed.proofs.FieldLaws.{field_of}
use Rattle.poly_mixed.proofs.PowerLemmas.{power_monomial, power_polynomial}
use Rattle.poly_mixed.proofs.SimpleLemmas.{no_ranks_rise}
use Rattle.poly_mixed.proofs.single.scaled_power.Goals as goal

pub new-requires : goal.new-requires
new-requires g c = no_ranks_rise

pub term-requires : goal.term-requires
term-requires g c =
    let f = field_of _ _ (g.met.F.Ring.laws c.args.field.now) (g.met.F.Field.no_zero_divisors c.args.field.now) in
    record { monomial = power_monomial f c.args.word c.args.exponent c.in_ok-mono.mono c.in_ok-mono.ensures c.requires.exponent; element = c.requires.element }

pub returns : goal.returns
returns g c =
    let f = field_of _ _ (g.met.F.Ring.laws c.args.field.now) (g.met.F.Field.no_zero_divisors c.args.field.now) in
    IfOk-weaker c.term.result _ _ (λ q e. power_polynomial f c.args.word c.args.exponent c.args.c c.in_ok-mono.mono q c.requires.word c.in_ok-mono.ensures c.requires.exponent c.requires.element e) c.term.ensures
