-- What the comparison of a circuit with its specification stands on.
use Rattle.std.proofs.Common.{◌≡◌, ◌∙◌, ap, sym, subst, ℕ, ◌↔◌, List, length}
use Rattle.net_words.specs.Binding.{BoundNet}
use Rattle.gf_basis.specs.declared.bases.Basis.{Basis}
use Rattle.poly_mixed.specs.Labels.{Labelling}
use Rattle.poly_mixed.specs.Polynomial.{Terms, value}
use Rattle.circuit_model.specs.Bases.{circuit_in}
use Rattle.circuit_model.specs.Circuit.{Circuit}
use Rattle.circuit_model.specs.Ones.{AreOnes}
use Rattle.circuit_model.specs.Out.{IsOut}
use Rattle.circuit_model.specs.WellFormed.{IsWellFormed}
use Rattle.circuit_model.proofs.DifferingLemmas.{moved_comparison}
use Rattle.stage_model.specs.OutputInBits.{IsOutputInBits}
use Rattle.spec_expand.specs.Expanded.{IsExpansion}
use Rattle.spec_expand.specs.SpecValue.{spec_at}
use Rattle.spec_expand.specs.Specification.{SpecTerms, IsOverWords}
use Rattle.spec_compare.specs.ValueAt.{at_ones, IsValueAt, IsInInputBits}
use Rattle.spec_compare.specs.Verdict.{IsVerdict, comparison_of}
use Rattle.spec_compare.specs.declared.verdict.Verdict.{Verdict}
use Rattle.spec_compare.proofs.OutputLemmas.{verdict_comparison}
use Rattle.spec_compare.proofs.SomeOnesLemmas.{as_value, at_point, element_there, the_ones, some_ones}
use Rattle.job_input.specs.Labelling.{labels_of}
use Rattle.job_input.specs.Setting.{setting_value, IsReady, IsTakenFor}
use Rattle.job_input.specs.SettingValue.{SettingValue}
use Rattle.job_input.specs.declared.setting.Setting.{Setting}
use Rattle.answer_core.specs.Abstraction.{taken_circuit}
use Rattle.answer_core.specs.Judged.{IsSpecified, IsJudged}
use Rattle.answer_core.proofs.BoundBasesLemmas.{count}

-- an expansion stands in input and state bits alone
pub expansion_in_bits : (c : Circuit) (h : List ℕ → ℕ) (ts : Terms) → IsExpansion c h ts → IsInInputBits c ts
expansion_in_bits c h ts is = record { reduced = is.reduced; bits = is.bits_alone; ranks = is.words_alone }

-- where the bits of an input are 1 it has the function's value there
expanded_there : (c : Circuit) (h : List ℕ → ℕ) (ts : Terms) → IsWellFormed c → IsExpansion c h ts → (xs ones : List ℕ) → AreOnes c xs ones → value c.product (at_ones ones) ts ≡ h xs
expanded_there c h ts well is xs ones are =
    is.values (at_ones ones) xs (at_point c well xs are.input ones are) are.input (λ i word x at got any. element_there c well xs are.input ones are i x word at got)

module _ (setting : SettingValue) (circuit : BoundNet) (spec : SpecTerms) (ts : Terms) (well : IsWellFormed (taken_circuit setting circuit)) (is : IsExpansion (taken_circuit setting circuit) (λ xs. spec_at setting.product xs spec) ts) where
  -- its value at an input is the specification's
  as_specified : (xs : List ℕ) (e : ℕ) → IsValueAt (taken_circuit setting circuit) ts xs e ↔ IsSpecified setting (taken_circuit setting circuit) spec xs e
  as_specified xs e =
      let c : Circuit = taken_circuit setting circuit in
      let h : List ℕ → ℕ = λ xs. spec_at setting.product xs spec in (
        (λ v. record { input = v.are.input; value = sym (expanded_there c h ts well is xs v.ones v.are) ∙ v.value_is }),
        λ s.
            let ones = the_ones c well xs s.input in
            let are = some_ones c well xs s.input in
            record { ones = ones; are = are; value_is = expanded_there c h ts well is xs ones are ∙ s.value },
      )

  -- a verdict on the two polynomials is the comparison of the output with the specification
  pub judged : (bits : Terms) (v : Verdict) (n : ℕ) → n ≡ length (taken_circuit setting circuit).words → IsOutputInBits (taken_circuit setting circuit) bits → IsVerdict (taken_circuit setting circuit) bits ts v → IsJudged setting circuit spec (comparison_of n v)
  judged bits v n long out verdict =
      let c : Circuit = taken_circuit setting circuit in
      let P : ℕ → Type 0 = λ m. IsJudged setting circuit spec (comparison_of m v) in
      subst P (sym long)
      (moved_comparison c (IsValueAt c bits) (IsValueAt c ts) (IsOut c) (IsSpecified setting (taken_circuit setting circuit) spec) (λ xs e. as_value c bits xs e well out) as_specified (comparison_of (length c.words) v) (verdict_comparison c bits ts v verdict))

module _ (k : ℕ) (mul : ℕ → ℕ → ℕ) (setting : Setting) (ready : IsReady k mul setting) (circuit : BoundNet) (taken : IsTakenFor k setting circuit) (labels : Labelling) (named : labels ≡ labels_of k setting.signature.words) where
  -- there are as many labels as input and state words
  pub labels_long : length labels.words ≡ length (taken_circuit (setting_value k mul setting) circuit).words
  labels_long = ap (λ (l : Labelling). length l.words) named ∙ sym (count k mul setting ready circuit taken)

  -- a specification over the words of the labels is one over those of the circuit
  pub spec_over : (slice : List Basis) (spec : SpecTerms) → slice ≡ setting.bases.items → IsOverWords k (length labels.words) spec → IsOverWords k (length (circuit_in k mul circuit slice).words) spec
  spec_over slice spec same over =
      let P : ℕ → Type 0 = λ n. IsOverWords k n spec in
      let Q : List Basis → Type 0 = λ bases. IsOverWords k (length (circuit_in k mul circuit bases).words) spec in
      subst Q (sym same) (subst P labels_long over)
