use Rattle.std.proofs.Common.{◌≡◌, ◌<◌, ◌≤◌, ◌+◌, ◌*◌, ◌^◌, ℕ, length, drop, get_or}
use Rattle.text_core.specs.Numbers.{IsDigit, value_of}
use Rattle.text_core.proofs.number.digits_value.Given as goal

abbrev pub invariant-loop-byte : goal.invariant-loop-byte
invariant-loop-byte l =
    record {
      value : l.value * l.base ^ length (drop l.byte-index l.digits) + value_of l.base (drop l.byte-index l.digits) ≡ value_of l.base l.digits;
      within : l.value ≤ l.limit;
      digits : (k : ℕ) → k < l.byte-index → IsDigit l.base (get_or l.digits k 0);
      some : 0 < length l.digits;
    }
