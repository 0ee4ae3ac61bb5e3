use Rattle.poly_mixed.proofs.FieldLaws.{field_of}
use Rattle.std.proofs.Common.{[]}
use Rattle.std.proofs.lemmas.Result.{IfOk-weaker}
use Rattle.poly_mixed.proofs.SimpleLemmas.{no_ranks_rise, bits_monomial, bits_polynomial}
use Rattle.poly_mixed.proofs.single.constant.Goals as goal

pub new-requires : goal.new-requires
new-requires g c = no_ranks_rise

pub term-requires : goal.term-requires
term-requires g c = record { monomial = bits_monomial (field_of _ _ (g.met.F.Ring.laws c.args.field.now) (g.met.F.Field.no_zero_divisors c.args.field.now)) [] c.in_ok-mono.mono c.in_ok-mono.ensures no_ranks_rise; element = c.requires }

pub returns : goal.returns
returns g c = IfOk-weaker c.term.result _ _ (λ q e. bits_polynomial (field_of _ _ (g.met.F.Ring.laws c.args.field.now) (g.met.F.Field.no_zero_divisors c.args.field.now)) [] c.in_ok-mono.mono c.args.c q c.in_ok-mono.ensures no_ranks_rise c.requires e) c.term.ensures
