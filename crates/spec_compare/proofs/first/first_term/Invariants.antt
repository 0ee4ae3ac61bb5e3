use Rattle.std.proofs.Common.{◌<◌, length}
use Rattle.spec_compare.specs.private.First.{IsFirstTo}
use Rattle.spec_compare.proofs.first.first_term.Given as goal

abbrev pub invariant-loop-i : goal.invariant-loop-i
invariant-loop-i l = record {
  within : l.best < length l.terms;
  first : IsFirstTo l.terms l.i l.best;
}
