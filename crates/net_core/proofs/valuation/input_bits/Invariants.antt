use Rattle.std.proofs.Common.{◌≡◌, ℕ, ◌<◌, length, Some, Bool}
use Rattle.std.specs.Prelude.{slice_get}
use Rattle.net_core.specs.NetList.{nets}
use Rattle.net_core.proofs.valuation.input_bits.Given as goal

abbrev pub invariant-loop-i : goal.invariant-loop-i
invariant-loop-i l =
    record {
      long : length l.bits.items ≡ nets l.net;
      each : (k : ℕ) → k < l.i → (n : ℕ) (v : Bool) → slice_get l.net.inputs k ≡ Some n → slice_get l.values k ≡ Some v → slice_get l.bits.items n ≡ Some v;
    }
