use Rattle.std.proofs.Common.{◌≡◌, ℕ, ◌<◌, Bool, false, length, Some}
use Rattle.std.specs.Prelude.{slice_get}
use Rattle.circuit_model.specs.private.Found.{IsBitIn, IsOnce, IsUnnamed}
use Rattle.circuit_model.proofs.plain.input_values.Given as goal

abbrev pub invariant-loop-i : goal.invariant-loop-i
invariant-loop-i g l =
    record {
      long : length l.values.items ≡ length l.net.inputs;
      done : (i n : ℕ) (v : Bool) → i < l.i → slice_get l.net.inputs i ≡ Some n → slice_get l.values.items i ≡ Some v → (IsUnnamed l.words n → v ≡ false) × (IsOnce l.words n → IsBitIn l.words l.xs n v);
    }
