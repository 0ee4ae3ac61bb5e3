use Rattle.std.proofs.Common.{◌≡◌, ℕ, ◌<◌, ◌≤◌, ◌^◌, length, get_or}
use Rattle.irreducible.specs.private.Pivots.{IsRankSoFar, IsKernelSoFar, AreChoices}
use Rattle.irreducible.proofs.elimination.eliminated.Given as goal

abbrev pub invariant-loop-i : goal.invariant-loop-i
invariant-loop-i l = record {
  so_far : IsRankSoFar l.rows l.sums l.i l.rank;
  choices_of : AreChoices l.rows l.sums l.choices;
  low : (t : ℕ) → get_or l.choices t 0 < 2 ^ l.i;
  kernel_of : IsKernelSoFar l.rows l.vectors l.i;
  whole_vectors : length l.vectors ≡ 64;
  few : l.rank ≤ l.i;
  whole : length l.sums ≡ 64;
  whole_choices : length l.choices ≡ 64;
}
