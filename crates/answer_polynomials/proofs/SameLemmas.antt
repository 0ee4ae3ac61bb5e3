-- What the comparison of two circuits of one setting stands on.
use Rattle.std.proofs.Common.{◌≡◌, ◌∙◌, sym, subst, ℕ, List, length}
use Rattle.net_words.specs.Binding.{BoundNet}
use Rattle.gf_basis.specs.declared.bases.Basis.{Basis}
use Rattle.poly_mixed.specs.Polynomial.{Terms}
use Rattle.circuit_model.specs.Alike.{AreAlike}
use Rattle.circuit_model.specs.Bases.{circuit_in}
use Rattle.circuit_model.specs.Circuit.{Circuit}
use Rattle.circuit_model.specs.WellFormed.{IsWellFormed}
use Rattle.circuit_model.proofs.OnesLemmas.{alike_back}
use Rattle.stage_model.specs.OutputInBits.{IsOutputInBits}
use Rattle.spec_compare.specs.ValueAt.{IsInInputBits}
use Rattle.spec_compare.specs.Verdict.{IsVerdict, comparison_of}
use Rattle.spec_compare.specs.declared.verdict.Verdict.{Verdict}
use Rattle.spec_compare.proofs.OutputLemmas.{output_in_bits, in_other_bits, outputs_compared}
use Rattle.job_input.specs.Labelling.{word_labels}
use Rattle.job_input.specs.Setting.{setting_value, IsReady, IsTakenFor}
use Rattle.job_input.specs.declared.setting.Setting.{Setting}
use Rattle.answer_core.specs.Abstraction.{taken_circuit}
use Rattle.answer_core.proofs.BoundBasesLemmas.{count}
use Rattle.answer_polynomials.specs.Same.{AreCompared}
use Rattle.answer_polynomials.proofs.AlikeLemmas.{alike}

module _ (k : ℕ) (mul : ℕ → ℕ → ℕ) (setting : Setting) (ready : IsReady k mul setting) where
  module _ (circuit other : BoundNet) (first : IsTakenFor k setting circuit) (second : IsTakenFor k setting other) (slice : List Basis) (same : slice ≡ setting.bases.items) where
    are_alike : AreAlike (taken_circuit (setting_value k mul setting) circuit) (taken_circuit (setting_value k mul setting) other)
    are_alike = alike (setting_value k mul setting) circuit other setting.signature.words first.roles second.roles

    module _ (well : IsWellFormed (taken_circuit (setting_value k mul setting) circuit)) (more : IsWellFormed (taken_circuit (setting_value k mul setting) other)) where
      pub right_in_bits : (ts : Terms) → IsOutputInBits (taken_circuit (setting_value k mul setting) other) ts → IsInInputBits (circuit_in k mul circuit slice) ts
      right_in_bits ts is =
          let P : List Basis → Type 0 = λ bases. IsInInputBits (circuit_in k mul circuit bases) ts in
          let c : Circuit = taken_circuit (setting_value k mul setting) circuit in
          let d : Circuit = taken_circuit (setting_value k mul setting) other in
          subst P (sym same) (in_other_bits d c (alike_back c d are_alike) ts more well (output_in_bits d ts is))

      pub compared : (ls rs : Terms) (v : Verdict) (n : ℕ) → n ≡ length (word_labels k setting.signature.words) → IsOutputInBits (taken_circuit (setting_value k mul setting) circuit) ls → IsOutputInBits (taken_circuit (setting_value k mul setting) other) rs
          → IsVerdict (circuit_in k mul circuit slice) ls rs v → AreCompared (setting_value k mul setting) circuit other (comparison_of n v)
      compared ls rs v n long left right is =
          let P : List Basis → Type 0 = λ bases. IsVerdict (circuit_in k mul circuit bases) ls rs v in
          let Q : ℕ → Type 0 = λ m. AreCompared (setting_value k mul setting) circuit other (comparison_of m v) in
          subst Q (count k mul setting ready circuit first ∙ sym long) (outputs_compared (taken_circuit (setting_value k mul setting) circuit) (taken_circuit (setting_value k mul setting) other) well more are_alike ls rs v left right (subst P same is))
