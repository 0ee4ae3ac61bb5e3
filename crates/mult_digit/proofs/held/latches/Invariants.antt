-- The latches are listed up to a place.
use Rattle.std.proofs.Common.{◌≡◌}
use Rattle.mult_digit.specs.DigitPlan.{digit_latches}
use Rattle.mult_digit.proofs.held.latches.Given as goal

abbrev pub invariant-loop-l : goal.invariant-loop-l
invariant-loop-l l = l.list.items ≡ digit_latches l.l l.fn.sums l.fn.z
