-- The labels of a job name each word that stands in a printed polynomial.
use Rattle.std.proofs.Common.{subst, ℕ, List, [], ◌∷◌, length}
use Rattle.net_words.specs.Binding.{BoundNet}
use Rattle.net_words.specs.declared.word.WordText.{WordText}
use Rattle.gf_basis.specs.declared.bases.Basis.{Basis}
use Rattle.poly_mixed.specs.Polynomial.{Terms, value}
use Rattle.poly_mixed.specs.Text.{HasWordNames}
use Rattle.poly_mixed.specs.laws.Uniqueness.{InFirstWords, InBits}
use Rattle.poly_mixed.proofs.FieldLaws.{field_of}
use Rattle.poly_mixed.proofs.FirstWordLemmas.{first_point, first_taken, is_first_point, first_alone}
use Rattle.circuit_model.specs.Out.{IsOut}
use Rattle.circuit_model.proofs.OutLemmas.{one_out}
use Rattle.stage_model.specs.Cut.{BoundCut, CutOf}
use Rattle.stage_model.specs.InputPoint.{input_of}
use Rattle.stage_model.specs.Mix.{IsMix}
use Rattle.stage_model.specs.Stage.{IsOfStage}
use Rattle.stage_model.specs.Variables.{variables_of}
use Rattle.stage_model.proofs.BoundLemmas.{bound_cut}
use Rattle.stage_model.proofs.CutLemmas.{one_cut, wordless_cut}
use Rattle.stage_model.proofs.MixLemmas.{mix_all}
use Rattle.stage_model.proofs.SizeLemmas.{is_unique, wordless_stage}
use Rattle.circuit_model.specs.OfBinding.{output_basis}
use Rattle.job_input.specs.Labelling.{labels_of}
use Rattle.job_input.specs.Setting.{HaveRoles, elements_of_each}
use Rattle.answer_core.proofs.StageLemmas.{IsJob, whole, well, based}
use Rattle.job_input.proofs.CountLemmas.{as_many}
use Rattle.poly_mixed.proofs.SharedLemmas.{none_later}

-- what has bits alone has only words before any place
pub bits_in_first : (n : ℕ) (ts : Terms) → InBits ts → InFirstWords n ts
bits_in_first n [] none = tt
bits_in_first n (t ∷ ts) none = (none_later n t.0.exponents none.0, bits_in_first n ts none.1)

module _ (k : ℕ) (mul : ℕ → ℕ → ℕ) (b : BoundNet) (bases : List Basis) (job : IsJob k mul b bases) (words : List WordText) where
  -- no word stands in the polynomial of a cut
  pub cut_words_named : (ts : Terms) → IsOfStage k mul (BoundCut b (output_basis b.binding.words (elements_of_each bases)) (length b.net.gates)) ts → HasWordNames (labels_of k words) ts
  cut_words_named ts stage =
      let c = whole k mul b bases job in
      let w = well k mul b bases job in
      let t = length b.net.gates in
      let cut : IsOfStage k mul (CutOf c t) ts = record { reduced = stage.reduced; values = λ p at. (bound_cut k mul b (elements_of_each bases) t p _ (based k mul b bases job).long).0 (stage.values p at) } in
      let none : InBits ts = wordless_stage k mul job.ring job.nozero (CutOf c t) (λ p x y at first other. one_cut c w t p x y first other) ts cut (λ p x at same. wordless_cut c.net (variables_of c) c.output t p x same) in
      bits_in_first (length (labels_of k words).words) ts none

  -- only the circuit's words stand in the polynomial of the mix of all words
  pub mix_words_named : (ts : Terms) → HaveRoles words b.binding.words → IsOfStage k mul (IsMix (whole k mul b bases job) (length (whole k mul b bases job).words)) ts → HasWordNames (labels_of k words) ts
  mix_words_named ts roles is =
      let c = whole k mul b bases job in
      let w = well k mul b bases job in
      let n = length c.words in
      let f = field_of k mul job.ring job.nozero in
      let alone : InFirstWords n ts =
      first_alone f (is_unique k mul job.ring job.nozero) n ts is.reduced
      (λ p at.
      let q = first_point n p in
      let there = is_first_point f n p at in
      let P : List ℕ → Type 0 = λ xs. IsOut c xs (value mul q ts) in
      one_out c (input_of c p) (value mul q ts) (value mul p ts) w
      (subst P (first_taken n p.words) ((mix_all c w q (value mul q ts) there).0 (is.values q there)))
      ((mix_all c w p (value mul p ts) at).0 (is.values p at))) in
      let P : ℕ → Type 0 = λ m. InFirstWords m ts in
      subst P (as_many k b.binding.words words (elements_of_each bases) (based k mul b bases job).long roles) alone
