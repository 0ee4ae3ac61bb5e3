use Rattle.std.proofs.Common.{◌≡◌, ℕ, List, length}
use Rattle.net_core.specs.NetList.{nets}
use Rattle.net_simplify.specs.private.Marks.{gates_by}
use Rattle.net_simplify.specs.private.Underway.{AreMarks, IsUnderway}
use Rattle.net_simplify.proofs.knowing.know_all.Given as goal

abbrev pub invariant-loop-position : goal.invariant-loop-position
invariant-loop-position l = (length l.known.units ≡ nets l.net) × ((ends : List ℕ) → AreMarks l.net ends (gates_by l.net.gates l.order) l.marks → IsUnderway l.net ends (gates_by l.net.gates l.order) l.position-index l.known l.catalog)
