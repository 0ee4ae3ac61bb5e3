use Rattle.std.proofs.Common.{◌≡◌, ℕ, ◌<◌, length, Some}
use Rattle.std.specs.Prelude.{slice_get}
use Rattle.net_core.specs.NetList.{nets}
use Rattle.net_core.specs.Value.{bit_of}
use Rattle.plain_runs.specs.private.Cycle.{IsInputBit}
use Rattle.plain_runs.proofs.cycle_bits.input_bits.Given as goal

abbrev pub invariant-loop-input : goal.invariant-loop-input
invariant-loop-input g l =
    record {
      long : length l.bits.items ≡ nets l.net;
      done : (k n : ℕ) → k < l.input-index → slice_get l.net.inputs k ≡ Some n → IsInputBit l.words l.xs l.feeds l.cycle n (bit_of l.bits.items n);
    }
