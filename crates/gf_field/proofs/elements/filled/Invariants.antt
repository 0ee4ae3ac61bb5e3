use Rattle.std.proofs.Common.{◌≡◌, ℕ, ◌≤◌, length, take, get_or}
use Rattle.gf_field.proofs.elements.filled.Given as goal

abbrev pub invariant-loop-i : goal.invariant-loop-i
invariant-loop-i l = record {
  copied : take l.i l.all ≡ take l.i l.numbers;
  whole : length l.all ≡ 64;
  rest : (j : ℕ) → l.i ≤ j → get_or l.all j 0 ≡ 0;
}
