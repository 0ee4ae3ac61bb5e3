use Rattle.std.proofs.Common.{◌≡◌, drop}
use Rattle.net_words.specs.Bind.{started}
use Rattle.net_words.proofs.binding.check_started.Given as goal

abbrev pub invariant-loop-latch : goal.invariant-loop-latch
invariant-loop-latch l = started l.words (drop l.latch-index l.latches) ≡ started l.words l.latches
