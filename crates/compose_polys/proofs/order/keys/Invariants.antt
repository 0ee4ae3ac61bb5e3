use Rattle.std.proofs.Common.{◌≡◌, ℕ, ◌<◌, length, Some}
use Rattle.std.specs.Prelude.{slice_get}
use Rattle.compose_polys.proofs.order.keys.Given as goal

abbrev pub invariant-loop-number : goal.invariant-loop-number
invariant-loop-number l = record {
  long : length l.keys.items ≡ l.number;
  each : (a : ℕ) → a < l.number → (v : ℕ) → slice_get l.levels a ≡ Some v → slice_get l.keys.items a ≡ Some (v, a);
}
