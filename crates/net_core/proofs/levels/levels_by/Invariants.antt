use Rattle.std.proofs.Common.{◌≡◌, ℕ, ◌<◌, Some, None}
use Rattle.std.specs.Prelude.{slice_get}
use Rattle.net_core.specs.Level.{level_at}
use Rattle.net_core.specs.Partial.{ArePartial}
use Rattle.net_core.proofs.levels.levels_by.Given as goal

abbrev pub invariant-loop-point : goal.invariant-loop-point
invariant-loop-point l =
    record {
      partial : ArePartial l.net l.levels.items l.done;
      known : (j n : ℕ) → j < l.point-index → slice_get l.order j ≡ Some n → level_at l.levels.items n ≡ None → ⊥;
    }
