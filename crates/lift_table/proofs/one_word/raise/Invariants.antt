use Rattle.std.proofs.Common.{◌≡◌, ◌<◌, ◌≤◌, ◌^◌, ℕ, length, get_or}
use Rattle.lift_table.proofs.one_word.raise.Given as goal

abbrev pub invariant-loop-x : goal.invariant-loop-x
invariant-loop-x g l = record {
  long : length l.values.items ≡ length l.initial.values.items;
  raised : (j : ℕ) → j < l.x → get_or l.values.items j 0 ≡ g.F.Ring.product l.field (get_or l.initial.values.items j 0) j;
  rest : (j : ℕ) → l.x ≤ j → get_or l.values.items j 0 ≡ get_or l.initial.values.items j 0;
  elements : (j : ℕ) → j < length l.values.items → get_or l.values.items j 0 < 2 ^ g.F.Ring.degree l.field;
}
