use Rattle.std.proofs.Common.{ℕ, ◌<◌, ◌^◌, get_or}
use Rattle.gf_field.proofs.elements.first_outside.Given as goal

abbrev pub invariant-loop-i : goal.invariant-loop-i
invariant-loop-i g l = (j : ℕ) → j < l.i → get_or l.numbers j 0 < 2 ^ g.R.Ring.degree l.ring
