-- What is known of the circuit of a binding, word by word.
use Rattle.std.proofs.Common.{◌≡◌, ◌∙◌, ap, sym, refl, subst, ℕ, ◌<◌, ◌≤◌, ◌+◌, ◌++◌, List, length, map, drop, get_or, Some, arith, append-nil, drop_of_length-le}
use Rattle.std.specs.Prelude.{slice_get}
use Rattle.std.proofs.lemmas.Option.{slice_get-map}
use Rattle.std.proofs.lemmas.List.{length-map}
use Rattle.lists.specs.laws.ReadLaws.{got_read, get_below, from_map}
use Rattle.net_core.specs.Sound.{IsSound}
use Rattle.net_words.specs.Binding.{Binding, BoundNet}
use Rattle.net_words.specs.OneCycle.{IsOneCycle}
use Rattle.net_words.specs.declared.bound.BoundWord.{BoundWord}
use Rattle.net_words.specs.declared.word.Role.{Role}
use Rattle.gf_field.specs.Ring.{IsRing}
use Rattle.gf_field.specs.Field.{HasNoZeroDivisors}
use Rattle.gf_basis.specs.Basis.{IsBasis}
use Rattle.gf_basis.specs.BasisParts.{elements_of, IsBasisOver}
use Rattle.gf_basis.specs.declared.bases.Basis.{Basis}
use Rattle.circuit_model.specs.WellFormed.{IsWellFormed}
use Rattle.circuit_model.specs.OfBinding.{HaveBases, word_with, words_of}
use Rattle.circuit_model.proofs.BoundLemmas.{bound_well, count_of}
use Rattle.circuit_model.specs.Bases.{AreBases, circuit_in}
use Rattle.spec_compare.specs.private.InputOf.{inputs_from}
use Rattle.spec_compare.proofs.StepLemmas.{next_inputs, still_few}

module _ (k : ℕ) (mul : ℕ → ℕ → ℕ) (b : BoundNet) (bases : List Basis) (are : AreBases k mul b bases) where
  all_long : length (map elements_of bases) ≡ length b.binding.words
  all_long = length-map bases elements_of ∙ are.long

  have_bases : HaveBases k b.binding.words (map elements_of bases)
  have_bases = record {
    long = all_long;
    each = λ elements has.
        let found = from_map elements_of bases has.0 elements has.1 in
        let P : List ℕ → Type 0 = IsBasis k in
        subst P found.2 (are.each found.0 (has.0, found.1)).elements;
  }

  pub is_well_formed : IsRing k mul → HasNoZeroDivisors k mul → IsSound b.net → IsOneCycle b.net b.binding → b.binding.k ≡ k → IsWellFormed (circuit_in k mul b bases)
  is_well_formed ring field sound bound bits = bound_well k mul b (map elements_of bases) bound bits have_bases ring field sound

  words_few : IsOneCycle b.net b.binding → length (words_of b.binding.words (map elements_of bases)) ≤ 8
  words_few bound = omega (arith, count_of b.binding.words (map elements_of bases) all_long, bound.parts.few)

  module _ (v : ℕ) (basis : Basis) (less : v < length b.binding.words) (read : basis ≡ get_or bases v basis) where
    at_base : slice_get bases v ≡ Some basis
    at_base = got_read bases v basis (omega (arith, are.long)) read

    pub is_over : IsBasisOver k mul basis
    is_over = are.each basis (v, at_base)

    module _ (binding : Binding) (same : binding ≡ b.binding) (role : Role) (role_is : (word : BoundWord) → slice_get binding.words v ≡ Some word → role ≡ word.role) (ones list : List ℕ)
        (so_far : list ++ inputs_from k ones (length list) (words_of (drop v b.binding.words) (drop v (map elements_of bases))) ≡ inputs_from k ones 0 (words_of b.binding.words (map elements_of bases))) where
      word : BoundWord
      word = (get_below b.binding.words v less).0

      at_word : slice_get b.binding.words v ≡ Some word
      unfolding word
      at_word = (get_below b.binding.words v less).1

      own_role : role ≡ word.role
      own_role = role_is word (ap (λ (x : Binding). slice_get x.words v) same ∙ at_word)

      at_elements : slice_get (map elements_of bases) v ≡ Some (elements_of basis)
      at_elements = slice_get-map elements_of bases v ∙ rw at_base refl

      pub few_here : IsOneCycle b.net b.binding → (nets : List ℕ) → length list + length (word_with role nets (elements_of basis)) ≤ 8
      few_here bound nets =
          let P : Role → Type 0 = λ r. length list + length (word_with r nets (elements_of basis)) ≤ 8 in
          subst P (sym own_role) (still_few k ones b.binding.words (map elements_of bases) v word (elements_of basis) at_word at_elements list so_far (words_few bound) nets)

      pub one_more : (new : List ℕ) → ((nets : List ℕ) → new ≡ list ++ inputs_from k ones (length list) (word_with role nets (elements_of basis)))
          → new ++ inputs_from k ones (length new) (words_of (drop (v + 1) b.binding.words) (drop (v + 1) (map elements_of bases))) ≡ inputs_from k ones 0 (words_of b.binding.words (map elements_of bases))
      one_more new is =
          next_inputs k ones b.binding.words (map elements_of bases) v word (elements_of basis) at_word at_elements list so_far new
          (is word.nets ∙ ap (λ r. list ++ inputs_from k ones (length list) (word_with r word.nets (elements_of basis))) own_role)

  pub all_words : (ones list : List ℕ) (v : ℕ) → length b.binding.words ≤ v → list ++ inputs_from k ones (length list) (words_of (drop v b.binding.words) (drop v (map elements_of bases))) ≡ inputs_from k ones 0 (words_of b.binding.words (map elements_of bases))
      → list ≡ inputs_from k ones 0 (words_of b.binding.words (map elements_of bases))
  all_words ones list v past so_far =
      sym (append-nil list) ∙ ap (λ us. list ++ inputs_from k ones (length list) (words_of us (drop v (map elements_of bases)))) (sym (drop_of_length-le b.binding.words past)) ∙ so_far
