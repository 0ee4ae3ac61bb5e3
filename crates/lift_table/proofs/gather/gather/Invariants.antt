use Rattle.std.proofs.Common.{◌≡◌, ◌+◌, ◌*◌, ◌<◌, ℕ, length, get_or}
use Rattle.lift_table.proofs.gather.gather.Given as goal

abbrev pub invariant-loop-i : goal.invariant-loop-i
invariant-loop-i l = record {
  long : length l.part.items ≡ l.i;
  at : (j : ℕ) → j < l.i → get_or l.part.items j 0 ≡ get_or l.list (j * l.distance + l.place) 0;
}
