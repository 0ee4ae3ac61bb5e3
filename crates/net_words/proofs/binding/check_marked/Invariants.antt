use Rattle.std.proofs.Common.{◌≡◌, ℕ, ◌<◌, false}
use Rattle.net_words.specs.Bind.{is_uncovered}
use Rattle.net_words.proofs.binding.check_marked.Given as goal

abbrev pub invariant-loop-number : goal.invariant-loop-number
invariant-loop-number l = (n : ℕ) → n < l.number → is_uncovered l.net l.words l.feeds n ≡ false
