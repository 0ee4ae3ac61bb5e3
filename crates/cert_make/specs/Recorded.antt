-- The certificate of a circuit: the output in words, and the pairs that the elimination of gates and the replacement of
-- words record, in their order. Source: this project's own.
use Rattle.std.specs.Prelude.{◌≡◌, ℕ, List, ◌++◌, length}
use Rattle.gf_basis.specs.BasisParts.{elements_of}
use Rattle.gf_basis.specs.declared.bases.Basis.{Basis}
use Rattle.net_core.specs.NetList.{nets}
use Rattle.net_words.specs.Binding.{BoundNet}
use Rattle.net_words.specs.Variables.{variables}
use Rattle.poly_mixed.specs.Polynomial.{Terms}
use Rattle.poly_mixed.specs.Steps.{Step}
use Rattle.circuit_model.specs.Bases.{circuit_in}
use Rattle.circuit_model.specs.OfBinding.{output_word, output_basis}
use Rattle.stage_model.specs.CutSteps.{AreCutSteps}
use Rattle.stage_model.specs.Mix.{IsMix}
use Rattle.stage_model.specs.Stage.{IsOfStage}
use Rattle.stage_model.specs.WordSteps.{AreWordSteps}
use Rattle.std.specs.Prelude.{map}

-- the claim is the polynomial of the mix of all words, and the pairs are those of all gates and then those of all words
pub record IsCertificateOf (k : ℕ) (mul : ℕ → ℕ → ℕ) (netlist : BoundNet) (bases : List Basis) (claim : Terms) (pairs : List Step) : Type 0 where
  pub cuts : List Step
  pub words : List Step
  pub claims : IsOfStage k mul (IsMix (circuit_in k mul netlist bases) (length (circuit_in k mul netlist bases).words)) claim
  pub are_cuts : AreCutSteps k mul netlist.net (variables (nets netlist.net) netlist.binding.words) (output_word netlist.binding.words (output_basis netlist.binding.words (map elements_of bases))) (length netlist.net.gates) cuts
  pub are_words : AreWordSteps (circuit_in k mul netlist bases) words
  pub pairs_are : pairs ≡ cuts ++ words
