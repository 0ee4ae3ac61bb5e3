use Rattle.poly_mixed.proofs.FieldLaws.{field_of}
use Rattle.poly_mixed.proofs.SimpleLemmas.{one_rank_rises}
use Rattle.cert_check.proofs.SubsetLemmas.{bit_is}
use Rattle.cert_check.proofs.generator.bit_sum.Goals as goal

pub new-requires : goal.new-requires
new-requires g c = one_rank_rises c.args.rank

pub returns : goal.returns
returns g c =
    bit_is (field_of _ _ (g.met.F.Ring.laws c.args._field.now) (g.met.F.Field.no_zero_divisors c.args._field.now)) c.args.rank c.in_ok-mono.mono c.zero-sum.result.terms c.push.new.self.terms c.in_ok-mono.ensures c.zero-sum.ensures c.in_ok-push.ensures
