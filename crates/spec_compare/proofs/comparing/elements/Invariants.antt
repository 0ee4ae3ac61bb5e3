use Rattle.std.proofs.Common.{◌≡◌, ◌++◌, drop, map, length}
use Rattle.gf_basis.specs.BasisParts.{elements_of}
use Rattle.circuit_model.specs.OfBinding.{words_of}
use Rattle.spec_compare.specs.private.InputOf.{inputs_from}
use Rattle.spec_compare.proofs.comparing.elements.Given as goal

abbrev pub invariant-loop-v : goal.invariant-loop-v
invariant-loop-v g l = l.list.items ++ inputs_from (g.F.Ring.degree l.field) l.ones (length l.list.items) (words_of (drop l.v l._circuit.binding.words) (drop l.v (map elements_of l.bases)))
    ≡ inputs_from (g.F.Ring.degree l.field) l.ones 0 (words_of l._circuit.binding.words (map elements_of l.bases))
