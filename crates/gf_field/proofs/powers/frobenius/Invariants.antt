use Rattle.std.proofs.Common.{◌≡◌, ◌<◌, ◌^◌}
use Rattle.gf_field.specs.Trace.{frobenius}
use Rattle.gf_field.proofs.powers.frobenius.Given as goal

abbrev pub invariant-loop : goal.invariant-loop
invariant-loop g l = record {
  element : l.square < 2 ^ g.R.Ring.degree l.ring;
  squares : l.square ≡ frobenius (g.R.Ring.product l.ring) l.counter l.fn.a;
}
