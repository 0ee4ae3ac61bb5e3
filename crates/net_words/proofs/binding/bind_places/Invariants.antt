use Rattle.std.proofs.Common.{◌≡◌, ℕ, List, [], length, drop, Result}
use Rattle.net_words.specs.Bind.{NetsOf}
use Rattle.net_words.specs.declared.binding.BindFault.{BindFault}
use Rattle.net_words.proofs.binding.bind_places.Given as goal

-- what may come of the rest may come of the whole
abbrev pub invariant-loop-i : goal.invariant-loop-i
invariant-loop-i l = (length l.nets.items ≡ l.i) × ((outcome : Result (List ℕ × List ℕ) BindFault) → NetsOf l.net l.number l.role l.taken.items l.nets.items (drop l.i l.names) outcome → NetsOf l.net l.number l.role l.initial.taken.items [] l.names outcome)
