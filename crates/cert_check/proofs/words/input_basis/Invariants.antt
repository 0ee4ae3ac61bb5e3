use Rattle.std.proofs.Common.{◌≡◌, map}
use Rattle.std.specs.Prelude.{slice_get}
use Rattle.gf_basis.specs.BasisParts.{duals_of}
use Rattle.circuit_model.specs.OfBinding.{words_of}
use Rattle.cert_check.proofs.WordsLemmas.{words_from}
use Rattle.cert_check.proofs.words.input_basis.Given as goal

abbrev pub invariant-loop-w : goal.invariant-loop-w
invariant-loop-w l = slice_get (words_from l.binding.words l.bases l.w) l.left ≡ slice_get (words_of l.binding.words (map duals_of l.bases)) l.word
