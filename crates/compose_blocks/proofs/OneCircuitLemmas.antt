-- A model with words and bases has one circuit at most.
use Rattle.std.proofs.Common.{◌≡◌, ◌∙◌, sym, refl, subst, ℕ, ◌+◌, List, [], map, Ok, Some}
use Rattle.std.specs.Prelude.{slice_get}
use Rattle.net_core.specs.NetList.{NetList}
use Rattle.net_words.specs.Bind.{BindingOf}
use Rattle.net_words.specs.Binding.{BoundNet}
use Rattle.net_words.specs.declared.word.WordText.{WordText}
use Rattle.net_words.proofs.BindDetermined.{binding_determined}
use Rattle.net_signature.specs.Body.{BlockValue}
use Rattle.net_blif.specs.Design.{model_named}
use Rattle.net_blif.specs.Top.{model_in}
use Rattle.net_blif.specs.declared.item.Item.{Item}
use Rattle.net_flat.proofs.FlatDetermined.{flattens_once}
use Rattle.gf_basis.specs.BasisParts.{elements_of}
use Rattle.gf_basis.specs.declared.bases.Basis.{Basis}
use Rattle.circuit_model.specs.Bases.{circuit_in}
use Rattle.circuit_model.specs.Circuit.{Circuit}
use Rattle.circuit_model.specs.OfBinding.{circuit_with}
use Rattle.compose_model.specs.Hierarchy.{bases_at, block_of, Hierarchy}
use Rattle.compose_model.specs.Values.{IsBlockOf, IsCircuitOf}
use Rattle.compose_blocks.specs.Block.{IsBlockCircuit}

module _ (k : ℕ) (mul : ℕ → ℕ → ℕ) (h : Hierarchy) where
  pub made_circuit : (model : ℕ) (words : List WordText) (bases : List Basis) (circuit : BoundNet) → IsBlockCircuit h.design model words circuit → IsCircuitOf k mul h model words (map elements_of bases) (circuit_in k mul circuit bases)
  made_circuit model words bases circuit is = record { net = circuit.net; flat = is.flat; latches = is.latches; binding = circuit.binding; bound = is.bound; is = refl }

  pub one_circuit : (model : ℕ) (words : List WordText) (bases : List (List ℕ)) (circuit other : Circuit) → IsCircuitOf k mul h model words bases circuit → IsCircuitOf k mul h model words bases other → circuit ≡ other
  one_circuit model words bases circuit other a b =
      let flat = flattens_once h.design model (Ok a.net) (Ok b.net) a.flat b.flat in
      let net : a.net ≡ b.net = cc in
      let P : NetList → Type 0 = λ n. BindingOf n words [] (Ok b.binding) in
      let bound = binding_determined a.net words [] (Ok a.binding) (Ok b.binding) a.bound (subst P (sym net) b.bound) in
      let binding : a.binding ≡ b.binding = cc in
      sym a.is ∙ (λ i. circuit_with k mul (record { net = net i; binding = binding i }) bases) ∙ b.is

  pub one_block : (item : Item) (circuit other : Circuit) → IsBlockOf k mul h item circuit → IsBlockOf k mul h item other → circuit ≡ other
  one_block item circuit other a b =
      let named_a : block_of h (model_in item) ≡ Some a.number = a.named in
      let named_b : block_of h (model_in item) ≡ Some b.number = b.named in
      let number : b.number ≡ a.number = cc in
      let P : ℕ → Type 0 = λ n. slice_get h.blocks n ≡ Some b.block in
      let found_a : slice_get h.blocks a.number ≡ Some a.block = a.found in
      let found_b : slice_get h.blocks a.number ≡ Some b.block = subst P number b.found in
      let block : b.block ≡ a.block = cc in
      let model_a : model_named h.design (model_in item) ≡ Some a.model = a.model_is in
      let model_b : model_named h.design (model_in item) ≡ Some b.model = b.model_is in
      let model : b.model ≡ a.model = cc in
      let Q : ℕ → Type 0 = λ n. IsCircuitOf k mul h n b.block.words (bases_at h (b.number + 1)) other in
      let R : BlockValue → Type 0 = λ v. IsCircuitOf k mul h a.model v.words (bases_at h (b.number + 1)) other in
      let S : ℕ → Type 0 = λ n. IsCircuitOf k mul h a.model a.block.words (bases_at h (n + 1)) other in
      one_circuit a.model a.block.words (bases_at h (a.number + 1)) circuit other a.is (subst S number (subst R block (subst Q model b.is)))
