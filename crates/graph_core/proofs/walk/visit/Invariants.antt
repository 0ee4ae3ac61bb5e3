use Rattle.std.proofs.Common.{ℕ, List}
use Rattle.lists.specs.Lists.{Has}
use Rattle.graph_core.specs.Walking.{IsWalking, IsMet, KeepsMet, MetAreReached, StartsAt, work}
use Rattle.graph_core.proofs.walk.visit.Given as goal

abbrev pub invariant-loop-frame : goal.invariant-loop-frame
invariant-loop-frame l =
    record {
      walk : IsWalking l.graph l.marks.items l.stack.items l.order.items;
      starts : StartsAt l.root l.stack.items;
      met : KeepsMet l.fn.marks.items l.marks.items;
      root : IsMet l.marks.items l.root;
      only : (roots : List ℕ) → Has roots l.root → MetAreReached l.graph roots l.fn.marks.items → MetAreReached l.graph roots l.marks.items;
    }

abbrev pub decreases-loop-frame : goal.decreases-loop-frame
decreases-loop-frame l = work l.marks.items l.stack.items
