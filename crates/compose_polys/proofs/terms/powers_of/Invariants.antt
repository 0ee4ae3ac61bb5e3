use Rattle.std.proofs.Common.{◌≡◌, take}
use Rattle.compose_polys.specs.Instance.{powers_from}
use Rattle.compose_polys.proofs.terms.powers_of.Given as goal

abbrev pub invariant-loop-word : goal.invariant-loop-word
invariant-loop-word l = l.powers.items ≡ take l.word (powers_from 0 l.term.0.exponents)
