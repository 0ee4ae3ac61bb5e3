use Rattle.std.proofs.Common.{◌≡◌}
use Rattle.compose_polys.specs.LevelOrder.{first_numbers}
use Rattle.compose_polys.proofs.order.numbers.Given as goal

abbrev pub invariant-loop-number : goal.invariant-loop-number
invariant-loop-number l = l.list.items ≡ first_numbers l.number
