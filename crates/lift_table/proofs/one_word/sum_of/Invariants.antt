use Rattle.std.proofs.Common.{◌≡◌, ◌<◌, ◌^◌, get_or}
use Rattle.gf_field.specs.Polynomial.{sum_of_first}
use Rattle.lift_table.proofs.one_word.sum_of.Given as goal

abbrev pub invariant-loop-value : goal.invariant-loop-value
invariant-loop-value g l = record {
  sum : l.sum ≡ sum_of_first l.value-index (λ y. get_or l.values y 0);
  element : l.sum < 2 ^ g.F.Ring.degree l._field;
}
