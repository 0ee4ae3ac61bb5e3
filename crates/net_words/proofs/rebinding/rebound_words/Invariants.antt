use Rattle.std.proofs.Common.{◌≡◌, ◌++◌, ◌*◌, drop}
use Rattle.net_words.specs.Rebind.{rebound}
use Rattle.net_words.proofs.rebinding.rebound_words.Given as goal

-- the words so far, and those of the rest
abbrev pub invariant-loop-w : goal.invariant-loop-w
invariant-loop-w l = l.words.items ++ rebound l.binding.k (drop l.w l.binding.words) (drop (l.binding.k * l.w) l.nets) ≡ rebound l.binding.k l.binding.words l.nets
