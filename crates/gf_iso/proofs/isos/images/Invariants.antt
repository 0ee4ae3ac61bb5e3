use Rattle.std.proofs.Common.{◌≡◌, ℕ, ◌<◌, ◌^◌, ◌+◌, length, get_or}
use Rattle.gf_iso.proofs.isos.images.Given as goal

abbrev pub invariant-loop-i : goal.invariant-loop-i
invariant-loop-i g l = record {
  whole : length l.all ≡ 64;
  before : (j : ℕ) → j < l.i → get_or l.all j 0 ≡ get_or l.powers j 0;
  elements : (j : ℕ) → get_or l.all j 0 < 2 ^ g.F.Ring.degree l.field;
}

abbrev pub invariant-loop-i-2 : goal.invariant-loop-i-2
invariant-loop-i-2 g l = record {
  whole : length l.all ≡ 64;
  low : (j : ℕ) → j < l.n → get_or l.all j 0 ≡ get_or l.powers j 0;
  before : (j : ℕ) → j < l.i → get_or l.all (l.n + j) 0 ≡ g.F.Ring.product l.field l.t (get_or l.powers j 0);
  elements : (j : ℕ) → get_or l.all j 0 < 2 ^ g.F.Ring.degree l.field;
}
