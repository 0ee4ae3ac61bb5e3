-- What callers of the replacement of words need.
use Rattle.std.proofs.Common.{◌≡◌, ◌∙◌, subst, ℕ, List, [], length, map, arith}
use Rattle.std.proofs.lemmas.List.{length-map}
use Rattle.net_words.specs.Binding.{BoundNet}
use Rattle.gf_basis.specs.BasisParts.{elements_of}
use Rattle.gf_basis.specs.declared.bases.Basis.{Basis}
use Rattle.poly_mixed.specs.Polynomial.{Terms, Point, IsPoint, value}
use Rattle.poly_mixed.specs.Cofactor.{LacksBit}
use Rattle.circuit_model.specs.Circuit.{Circuit}
use Rattle.circuit_model.specs.WellFormed.{IsWellFormed}
use Rattle.circuit_model.specs.OfBinding.{output_basis}
use Rattle.circuit_model.specs.Out.{IsOut}
use Rattle.stage_model.specs.Cut.{BoundCut}
use Rattle.stage_model.specs.InputPoint.{input_of}
use Rattle.stage_model.specs.Mix.{IsMix}
use Rattle.stage_model.specs.Stage.{IsOfStage}
use Rattle.stage_model.proofs.BoundLemmas.{bound_cut}
use Rattle.stage_model.proofs.MixLemmas.{mix_none, mix_all}
use Rattle.stage_model.proofs.NextMixLemmas.{mix_lacks}
use Rattle.circuit_model.specs.Bases.{AreBases, circuit_in}

pub taken : (k : ℕ) (mul : ℕ → ℕ → ℕ) (bound : BoundNet) (bases : List Basis) (basis : List ℕ) (ts : Terms) → IsWellFormed (circuit_in k mul bound bases) → AreBases k mul bound bases → bound.net.latches ≡ []
    → basis ≡ output_basis bound.binding.words (map elements_of bases) → IsOfStage k mul (BoundCut bound basis (length bound.net.gates)) ts → IsOfStage k mul (IsMix (circuit_in k mul bound bases) 0) ts
taken k mul bound bases basis ts well are flat same is =
    let P : List ℕ → Type 0 = λ b. IsOfStage k mul (BoundCut bound b (length bound.net.gates)) ts in
    let cut = subst P same is in
    let long = length-map bases elements_of ∙ are.long in
    record {
      reduced = is.reduced;
      values = λ p at. (mix_none (circuit_in k mul bound bases) well flat p (value mul p ts) at).1 ((bound_cut k mul bound (map elements_of bases) (length bound.net.gates) p (value mul p ts) long).0 (cut.values p at));
    }

module _ (circuit : Circuit) (ts : Terms) (well : IsWellFormed circuit) (is : IsOfStage circuit.k circuit.product (IsMix circuit (length circuit.words)) ts) where
  pub output_values : (p : Point) → IsPoint circuit.k p → IsOut circuit (input_of circuit p) (value circuit.product p ts)
  output_values p at = (mix_all circuit well p (value circuit.product p ts) at).0 (is.values p at)

  pub words_alone : (rank : ℕ) → LacksBit rank ts
  words_alone rank = mix_lacks circuit well (length circuit.words) rank ts (λ i j low high less. absurd (omega arith)) is
