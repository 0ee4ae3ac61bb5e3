use Rattle.std.proofs.Common.{◌≡◌, ◌<◌, ℕ, ◌||◌, length, take}
use Rattle.net_words.specs.Roles.{in_word}
use Rattle.net_words.specs.declared.word.Role.TheVariants.{State}
use Rattle.unroll.specs.private.Plan.{mark_at}
use Rattle.unroll.proofs.marks.mark_states.Given as goal

abbrev pub invariant-loop-w : goal.invariant-loop-w
invariant-loop-w l = (n : ℕ) → n < length l.marks → mark_at l.marks n ≡ (mark_at l.fn.marks n || in_word State (take l.w l.binding.words) n)
