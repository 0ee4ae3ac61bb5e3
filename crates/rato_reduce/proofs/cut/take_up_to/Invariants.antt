use Rattle.std.proofs.Common.{ℕ, List, length}
use Rattle.rato_reduce.specs.private.CutTerms.{AreBitEntries, IsTaken}
use Rattle.rato_reduce.proofs.cut.take_up_to.Given as goal

abbrev pub invariant-loop-key : goal.invariant-loop-key
invariant-loop-key l = record {
  taken : IsTaken l.rank l.initial.entries.entries l.entries.entries l.part.items l.others.items;
  entries : (places : List ℕ) → AreBitEntries places l.initial.entries.entries → AreBitEntries places l.entries.entries;
}

abbrev pub decreases-loop-key : goal.decreases-loop-key
decreases-loop-key l = length l.entries.entries
