use Rattle.std.proofs.Common.{◌≡◌, ◌<◌, ◌^◌}
use Rattle.gf_field.specs.Trace.{frobenius, trace}
use Rattle.gf_field.proofs.traces.trace.Given as goal

abbrev pub invariant-loop : goal.invariant-loop
invariant-loop g l = record {
  element : l.square < 2 ^ g.F.Ring.degree l.field;
  sum_element : l.sum < 2 ^ g.F.Ring.degree l.field;
  squares : l.square ≡ frobenius (g.F.Ring.product l.field) l.counter l.fn.a;
  total : l.sum ≡ trace (g.F.Ring.product l.field) l.counter l.fn.a;
}
