use Rattle.std.proofs.Common.{◌≡◌, ◌++◌, drop, map}
use Rattle.gf_basis.specs.BasisParts.{elements_of}
use Rattle.circuit_model.specs.Flat.{AreOver, word_of}
use Rattle.circuit_model.specs.OfBinding.{words_of}
use Rattle.lift_table.proofs.circuit_words.circuit_words.Given as goal

abbrev pub invariant-loop-w : goal.invariant-loop-w
invariant-loop-w g l = record {
  words : map word_of l.list.items ++ words_of (drop l.w l.circuit.binding.words) (drop l.w (map elements_of l.bases)) ≡ words_of l.circuit.binding.words (map elements_of l.bases);
  over : AreOver (g.F.Ring.degree l.field) (g.F.Ring.product l.field) l.list.items;
}
