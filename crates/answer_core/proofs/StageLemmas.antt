-- A circuit with its field and the bases of its words: it is well-formed, and labels name its polynomial in words.
use Rattle.std.proofs.Common.{◌≡◌, ◌∙◌, subst, ℕ, ◌+◌, List, [], length, arith}
use Rattle.std.proofs.lemmas.List.{length-map}
use Rattle.lists.specs.laws.ReadLaws.{from_map}
use Rattle.net_core.specs.Sound.{IsSound}
use Rattle.net_words.specs.Binding.{BoundNet}
use Rattle.net_words.specs.OneCycle.{IsOneCycle}
use Rattle.net_words.specs.declared.word.WordText.{WordText}
use Rattle.gf_field.specs.Ring.{IsRing}
use Rattle.gf_field.specs.Field.{HasNoZeroDivisors}
use Rattle.gf_basis.specs.Basis.{IsBasis}
use Rattle.gf_basis.specs.BasisParts.{elements_of}
use Rattle.gf_basis.specs.declared.bases.Basis.{Basis}
use Rattle.poly_mixed.specs.Polynomial.{Terms}
use Rattle.poly_mixed.specs.Labels.{bit_count}
use Rattle.poly_mixed.specs.Text.{HasNames}
use Rattle.circuit_model.specs.Circuit.{Circuit}
use Rattle.circuit_model.specs.OfBinding.{circuit_with, HaveBases}
use Rattle.circuit_model.specs.WellFormed.{IsWellFormed}
use Rattle.circuit_model.proofs.BoundLemmas.{bound_well}
use Rattle.stage_model.specs.Mix.{IsMix}
use Rattle.stage_model.specs.Stage.{IsOfStage}
use Rattle.stage_model.proofs.NextMixLemmas.{mix_lacks}
use Rattle.job_input.specs.Labelling.{word_labels, labels_of}
use Rattle.job_input.specs.Setting.{elements_of_each, AreBasesOver}
use Rattle.stage_model.proofs.SharedLemmas.{named_terms}

-- what is known of a circuit with its field and the bases of its words
pub record IsJob (k : ℕ) (mul : ℕ → ℕ → ℕ) (b : BoundNet) (bases : List Basis) : Type 0 where
  pub ring : IsRing k mul
  pub nozero : HasNoZeroDivisors k mul
  pub sound : IsSound b.net
  pub bound : IsOneCycle b.net b.binding
  pub flat : b.net.latches ≡ []
  pub same : b.binding.k ≡ k
  pub over : AreBasesOver k mul bases
  pub long : length bases ≡ length b.binding.words

module _ (k : ℕ) (mul : ℕ → ℕ → ℕ) (b : BoundNet) (bases : List Basis) (job : IsJob k mul b bases) where
  abbrev all : List (List ℕ)
  all = elements_of_each bases

  abbrev pub whole : Circuit
  whole = circuit_with k mul b all

  long' : length all ≡ length b.binding.words
  long' = length-map bases elements_of ∙ job.long

  pub based : HaveBases k b.binding.words all
  based = record { long = long'; each = λ e has. let found = from_map elements_of bases has.0 e has.1 in let P : List ℕ → Type 0 = λ xs. IsBasis k xs in subst P found.2 (job.over found.0 (has.0, found.1)).elements }

  pub well : IsWellFormed whole
  well = bound_well k mul b all job.bound job.same based job.ring job.nozero job.sound

  -- no bit stands in the polynomial in words, so labels name all of it
  pub terms_named : (words : List WordText) (ts : Terms) → IsOfStage k mul (IsMix whole (length whole.words)) ts → HasNames (labels_of k words) ts
  terms_named words ts stage = named_terms (bit_count (word_labels k words) + 0) ts (λ rank high. mix_lacks whole well (length whole.words) rank ts (λ i j high' less _. absurd (omega arith)) stage)
