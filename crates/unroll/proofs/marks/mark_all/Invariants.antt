use Rattle.std.proofs.Common.{◌≡◌, ◌<◌, ℕ, ◌||◌, length, take}
use Rattle.net_words.specs.Roles.{stands_in}
use Rattle.unroll.specs.private.Plan.{mark_at}
use Rattle.unroll.proofs.marks.mark_all.Given as goal

abbrev pub invariant-loop-net : goal.invariant-loop-net
invariant-loop-net l = (k : ℕ) → k < length l.marks → mark_at l.marks k ≡ (mark_at l.initial.marks k || stands_in (take l.net-index l.list) k)
