use Rattle.std.proofs.Common.{◌≡◌, ℕ, ◌<◌, ◌≤◌, ◌^◌, length, get_or}
use Rattle.gf_field.specs.Power.{power as power_of}
use Rattle.gf_iso.proofs.matrices.powers.Given as goal

abbrev pub invariant-loop-i : goal.invariant-loop-i
invariant-loop-i g l = record {
  whole : length l.all ≡ 64;
  element : l.power < 2 ^ g.F.Ring.degree l.field;
  is : l.power ≡ power_of (g.F.Ring.product l.field) l.y l.i;
  before : (j : ℕ) → j < l.i → get_or l.all j 0 ≡ power_of (g.F.Ring.product l.field) l.y j;
  rest : (j : ℕ) → l.i ≤ j → get_or l.all j 0 ≡ 0;
  elements : (j : ℕ) → j < l.i → get_or l.all j 0 < 2 ^ g.F.Ring.degree l.field;
}
