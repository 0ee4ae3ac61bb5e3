use Rattle.std.proofs.Common.{◌≡◌, ℕ, ◌<◌, ◌^◌, ◌%◌}
use Rattle.gf_field.specs.Trace.{frobenius, trace}
use Rattle.gf_basis.specs.private.TraceWord.{parity}
use Rattle.gf_basis.proofs.duals.trace_mask.Given as goal

abbrev pub invariant-loop : goal.invariant-loop
invariant-loop g l = record {
  forms : (y : ℕ) → y < 2 ^ g.F.Ring.degree l.field → parity l.form y ≡ frobenius (g.F.Ring.product l.field) l.counter y % 2;
  masks : (y : ℕ) → y < 2 ^ g.F.Ring.degree l.field → parity l.mask y ≡ trace (g.F.Ring.product l.field) l.counter y % 2;
}
