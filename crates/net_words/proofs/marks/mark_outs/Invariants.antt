use Rattle.std.proofs.Common.{◌≡◌, ℕ, ◌<◌, ◌||◌, ◌==◌, length, take}
use Rattle.std.specs.List.{list_any}
use Rattle.net_words.specs.BindReading.{mark_at}
use Rattle.net_words.proofs.marks.mark_outs.Given as goal

abbrev pub invariant-loop-latch : goal.invariant-loop-latch
invariant-loop-latch l = (k : ℕ) → k < length l.marks → mark_at l.marks k ≡ (mark_at l.initial.marks k || list_any (λ m. m.out == k) (take l.latch-index l.latches))
