use Rattle.std.specs.List.{AllAdjacentBelow}
use Rattle.rato_reduce.proofs.ListedLemmas.{StandsBefore}
use Rattle.rato_reduce.proofs.listed.are_in_order.Given as goal

-- the terms so far stand before their next ones
abbrev pub invariant-loop-next : goal.invariant-loop-next
invariant-loop-next l = AllAdjacentBelow StandsBefore l.terms l.next
