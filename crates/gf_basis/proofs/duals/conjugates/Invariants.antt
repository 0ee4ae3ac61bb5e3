use Rattle.std.proofs.Common.{◌≡◌, ℕ, ◌<◌, ◌≤◌, ◌^◌, length, get_or}
use Rattle.gf_field.specs.Trace.{frobenius}
use Rattle.gf_basis.proofs.duals.conjugates.Given as goal

abbrev pub invariant-loop-i : goal.invariant-loop-i
invariant-loop-i g l = record {
  whole : length l.all ≡ 64;
  element : l.square < 2 ^ g.F.Ring.degree l.field;
  squares : l.square ≡ frobenius (g.F.Ring.product l.field) l.i l.fn.a;
  before : (j : ℕ) → j < l.i → get_or l.all j 0 ≡ frobenius (g.F.Ring.product l.field) j l.fn.a;
  rest : (j : ℕ) → l.i ≤ j → get_or l.all j 0 ≡ 0;
  elements : (j : ℕ) → j < l.i → get_or l.all j 0 < 2 ^ g.F.Ring.degree l.field;
}
