use Rattle.std.proofs.Common.{◌≡◌, ℕ, ◌<◌, ◌||◌, length, take}
use Rattle.std.specs.List.{list_any}
use Rattle.net_words.specs.BindReading.{mark_at}
use Rattle.net_words.specs.Roles.{stands_in}
use Rattle.net_words.proofs.marks.mark_gates.Given as goal

abbrev pub invariant-loop-gate : goal.invariant-loop-gate
invariant-loop-gate l = (k : ℕ) → k < length l.marks → mark_at l.marks k ≡ (mark_at l.initial.marks k || list_any (λ gate. stands_in gate.inputs k) (take l.gate-index l.gates))
