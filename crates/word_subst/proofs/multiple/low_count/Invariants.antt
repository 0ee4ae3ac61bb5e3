use Rattle.std.proofs.Common.{◌<◌, ◌≤◌, ◌+◌, ◌-◌, ◌^◌, take, length}
use Rattle.std.specs.List.{AllByRecursion}
use Rattle.word_subst.proofs.multiple.low_count.Given as goal

abbrev pub invariant-loop-n : goal.invariant-loop-n
invariant-loop-n g l = record {
  within : l.n ≤ length l.powers;
  low : AllByRecursion (λ t. t.0 + l.exponent < 2 ^ g.F.Ring.degree l.field) (take l.n l.powers);
}

abbrev pub decreases-loop-n : goal.decreases-loop-n
decreases-loop-n g l = length l.powers - l.n
