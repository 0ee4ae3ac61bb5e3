use Rattle.std.proofs.Common.{ℕ, ◌<◌, get_or}
use Rattle.net_blif.specs.private.FirstLine.{IsWordByte}
use Rattle.net_blif.proofs.in_place.front_from.Given as goal

-- the bytes so far belong to a word
abbrev pub invariant-loop-i : goal.invariant-loop-i
invariant-loop-i l = (k : ℕ) → k < l.i → IsWordByte (get_or l.text k 0)
