use Rattle.std.proofs.Common.{◌<◌, ◌^◌, ap, length, arith}
use Rattle.compose_polys.proofs.StageLemmas.{powers_long}
use Rattle.compose_polys.proofs.terms.sum_term.Goals as goal

pub new-requires : goal.new-requires
new-requires c = omega (arith, ap length c.in_ok-powers.ensures, powers_long 0 c.args.term.now.0.exponents, c.requires)
