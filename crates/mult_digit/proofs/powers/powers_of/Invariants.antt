-- The powers up to a place.
use Rattle.std.proofs.Common.{◌≡◌, ℕ, ◌<◌, ◌^◌, length, get_or}
use Rattle.gf_field.specs.Power.{power}
use Rattle.mult_digit.proofs.powers.powers_of.Given as goal

abbrev pub invariant-loop-i : goal.invariant-loop-i
invariant-loop-i g l = record {
  whole : length l.powers ≡ 128;
  element : l.last < 2 ^ g.R.Ring.degree l.ring;
  next : l.last ≡ power (g.R.Ring.product l.ring) l.fn.x l.i;
  before : (j : ℕ) → j < l.i → get_or l.powers j 0 ≡ power (g.R.Ring.product l.ring) l.fn.x j;
}
