-- A circuit to which the words of a setting are bound: how many words it has, and its bases.
use Rattle.std.proofs.Common.{◌≡◌, ◌∙◌, sym, subst, ℕ, List, length}
use Rattle.std.proofs.lemmas.List.{length-map}
use Rattle.net_words.specs.Binding.{BoundNet}
use Rattle.gf_basis.specs.BasisParts.{elements_of}
use Rattle.gf_basis.specs.declared.bases.Basis.{Basis}
use Rattle.poly_mixed.specs.Polynomial.{Terms}
use Rattle.circuit_model.specs.Bases.{AreBases, circuit_in}
use Rattle.stage_model.specs.OutputInBits.{IsOutputInBits}
use Rattle.spec_compare.specs.ValueAt.{IsInInputBits}
use Rattle.spec_compare.proofs.OutputLemmas.{output_in_bits}
use Rattle.job_input.specs.Labelling.{word_labels}
use Rattle.job_input.specs.Setting.{setting_value, elements_of_each, IsReady, IsTakenFor}
use Rattle.job_input.specs.declared.setting.Setting.{Setting}
use Rattle.answer_core.specs.Abstraction.{taken_circuit}
use Rattle.job_input.proofs.CountLemmas.{as_many}

module _ (k : ℕ) (mul : ℕ → ℕ → ℕ) (setting : Setting) (ready : IsReady k mul setting) where
  -- a circuit has as many input and state words as labels
  pub count : (circuit : BoundNet) → IsTakenFor k setting circuit → length (taken_circuit (setting_value k mul setting) circuit).words ≡ length (word_labels k setting.signature.words)
  count circuit taken = as_many k circuit.binding.words setting.signature.words (elements_of_each setting.bases.items) (length-map setting.bases.items elements_of ∙ taken.long) taken.roles

  module _ (circuit : BoundNet) (taken : IsTakenFor k setting circuit) (slice : List Basis) (same : slice ≡ setting.bases.items) where
    pub bases_are : AreBases k mul circuit slice
    bases_are = let P : List Basis → Type 0 = AreBases k mul circuit in subst P (sym same) (record { long = taken.long; each = ready.over })

    pub left_in_bits : (ts : Terms) → IsOutputInBits (taken_circuit (setting_value k mul setting) circuit) ts → IsInInputBits (circuit_in k mul circuit slice) ts
    left_in_bits ts is =
        let P : List Basis → Type 0 = λ bases. IsInInputBits (circuit_in k mul circuit bases) ts in
        subst P (sym same) (output_in_bits (taken_circuit (setting_value k mul setting) circuit) ts is)
