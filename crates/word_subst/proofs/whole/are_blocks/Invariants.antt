use Rattle.std.proofs.Common.{◌≡◌, ◌+◌, ◌*◌, drop}
use Rattle.gf_basis.specs.BasisParts.{elements_of}
use Rattle.word_subst.specs.Whole.{times_bits}
use Rattle.word_subst.proofs.whole.are_blocks.Given as goal

abbrev pub invariant-loop-place : goal.invariant-loop-place
invariant-loop-place g l =
    l.rest ≡ times_bits (g.F.Ring.product l.field) (g.F.Ring.degree l.field * l.word + l.place) (drop l.place (elements_of l.basis)) l.parts
    → l.terms ≡ times_bits (g.F.Ring.product l.field) (g.F.Ring.degree l.field * l.word) (elements_of l.basis) l.parts
