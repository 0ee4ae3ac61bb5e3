use Rattle.std.proofs.Common.{◌≡◌, ℕ, ◌<◌, ◌||◌, length, take}
use Rattle.net_words.specs.BindReading.{mark_at}
use Rattle.net_words.specs.Roles.{in_word}
use Rattle.net_words.proofs.marks.mark_words.Given as goal

abbrev pub invariant-loop-word : goal.invariant-loop-word
invariant-loop-word l = (k : ℕ) → k < length l.marks → mark_at l.marks k ≡ (mark_at l.initial.marks k || in_word l.role (take l.word-index l.words) k)
