use Rattle.std.proofs.Common.{ℕ, Bool}
use Rattle.net_simplify.specs.private.Best.{AreSingles, IsBest}
use Rattle.net_simplify.specs.private.Lists.{forms_of}
use Rattle.net_simplify.proofs.choosing.choose.Given as goal

abbrev pub invariant-loop-opened : goal.invariant-loop-opened
invariant-loop-opened l = (single : ℕ → Bool) → AreSingles single l.marks → IsBest single (forms_of l.known) l.gate l.best l.opened
