use Rattle.std.proofs.Common.{◌≡◌, ℕ, ◌<◌, [], Some}
use Rattle.std.specs.Prelude.{slice_get}
use Rattle.graph_core.specs.Walking.{IsWalking, IsMet, MetAreReached}
use Rattle.graph_core.proofs.walk.arrange.Given as goal

abbrev pub invariant-loop-root : goal.invariant-loop-root
invariant-loop-root l =
    record {
      walk : IsWalking l.graph l.marks.items [] l.order.items;
      stack : l.stack.items ≡ [];
      met : (k a : ℕ) → k < l.root-index → slice_get l.roots k ≡ Some a → IsMet l.marks.items a;
      only : MetAreReached l.graph l.roots l.marks.items;
    }
