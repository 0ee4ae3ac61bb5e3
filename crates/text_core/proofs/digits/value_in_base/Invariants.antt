use Rattle.std.proofs.Common.{◌≡◌, ◌+◌, ◌*◌, ◌^◌, length, drop}
use Rattle.text_core.specs.Numbers.{value_of}
use Rattle.text_core.proofs.digits.value_in_base.Given as goal

abbrev pub invariant-loop-byte : goal.invariant-loop-byte
invariant-loop-byte l = l.n * l.base ^ length (drop l.byte-index l.digits) + value_of l.base (drop l.byte-index l.digits) ≡ value_of l.base l.digits
