use Rattle.std.proofs.Common.{◌≡◌, ℕ, List, [], length, drop, Result}
use Rattle.net_words.specs.Bind.{BoundOf}
use Rattle.net_words.specs.declared.binding.BindFault.{BindFault}
use Rattle.net_words.specs.declared.bound.BoundWord.{BoundWord}
use Rattle.net_words.proofs.binding.bind_words.Given as goal

-- what may come of the rest may come of the whole
abbrev pub invariant-loop-i : goal.invariant-loop-i
invariant-loop-i l = (length l.bound.items ≡ l.i) × ((outcome : Result (List BoundWord × List ℕ) BindFault) → BoundOf l.net l.taken.items l.bound.items (drop l.i l.words) outcome → BoundOf l.net l.initial.taken.items [] l.words outcome)
