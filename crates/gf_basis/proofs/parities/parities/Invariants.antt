use Rattle.std.proofs.Common.{◌≡◌, drop}
use Rattle.gf_basis.specs.private.TraceWord.{parity_word}
use Rattle.gf_basis.proofs.parities.parities.Given as goal

abbrev pub invariant-loop-i : goal.invariant-loop-i
invariant-loop-i l = l.word ≡ parity_word (drop l.i l.rows) l.mask
