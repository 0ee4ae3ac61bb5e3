-- What is known of a word when its turn comes.
use Rattle.std.proofs.Common.{◌≡◌, ◌∙◌, ap, refl, subst, ℕ, ◌<◌, ◌≤◌, List, length, map, get_or, Some, arith}
use Rattle.std.specs.Prelude.{slice_get}
use Rattle.std.proofs.lemmas.Option.{slice_get-map}
use Rattle.std.proofs.lemmas.List.{length-map}
use Rattle.std.proofs.Math.Nat.{zero-add}
use Rattle.lists.specs.laws.ReadLaws.{got_read, from_map}
use Rattle.net_core.specs.Sound.{IsSound}
use Rattle.net_words.specs.Binding.{Binding, BoundNet}
use Rattle.net_words.specs.OneCycle.{IsOneCycle}
use Rattle.gf_field.specs.Ring.{IsRing}
use Rattle.gf_field.specs.Field.{HasNoZeroDivisors}
use Rattle.gf_basis.specs.Basis.{IsBasis}
use Rattle.gf_basis.specs.BasisParts.{elements_of, IsBasisOver}
use Rattle.gf_basis.specs.declared.bases.Basis.{Basis}
use Rattle.circuit_model.specs.Word.{Word}
use Rattle.circuit_model.specs.WellFormed.{IsWellFormed}
use Rattle.circuit_model.specs.OfBinding.{HaveBases}
use Rattle.circuit_model.proofs.BoundLemmas.{bound_well}
use Rattle.circuit_model.specs.Bases.{AreBases, circuit_in}
use Rattle.circuit_model.specs.Places.{places_from}
use Rattle.circuit_model.proofs.PlaceLemmas.{places_long, word_at}

module _ (k : ℕ) (mul : ℕ → ℕ → ℕ) (b : BoundNet) (bases : List Basis) (are : AreBases k mul b bases) where
  all_long : length (map elements_of bases) ≡ length b.binding.words
  all_long = length-map bases elements_of ∙ are.long

  have_bases : HaveBases k b.binding.words (map elements_of bases)
  have_bases = record {
    long = all_long;
    each = λ elements has.
        let found = from_map elements_of bases has.0 elements has.1 in
        let P : List ℕ → Type 0 = IsBasis k in
        subst P found.2 (are.each found.0 (has.0, found.1)).elements;
  }

  pub is_well_formed : IsRing k mul → HasNoZeroDivisors k mul → IsSound b.net → IsOneCycle b.net b.binding → b.binding.k ≡ k → IsWellFormed (circuit_in k mul b bases)
  is_well_formed ring field sound bound bits = bound_well k mul b (map elements_of bases) bound bits have_bases ring field sound

  -- the numbers that the code finds are as many as the words of the circuit
  pub places_are : (places : List ℕ) (binding : Binding) → places ≡ places_from 0 binding.words → binding ≡ b.binding → places ≡ places_from 0 b.binding.words
  places_are places binding is same = is ∙ ap (λ (x : Binding). places_from 0 x.words) same

  pub as_many : (places : List ℕ) → places ≡ places_from 0 b.binding.words → length places ≡ length (circuit_in k mul b bases).words
  as_many places is = ap length is ∙ places_long 0 b.binding.words (map elements_of bases) all_long

  -- the last word's turn is over
  pub all_taken : (places : List ℕ) → places ≡ places_from 0 b.binding.words → (w n : ℕ) → n ≡ length places → n ≤ w → w ≤ n → w ≡ length (circuit_in k mul b bases).words
  all_taken places is w n many most least = omega (arith, as_many places is, many, most, least)

  pub few_places : (places : List ℕ) → places ≡ places_from 0 b.binding.words → IsWellFormed (circuit_in k mul b bases) → (w : ℕ) → w < length places → w < 8
  few_places places is well w less = omega (arith, as_many places is, well.few, less)

  module _ (places : List ℕ) (is : places ≡ places_from 0 b.binding.words) (w v : ℕ) (less : w < length places) (read : v ≡ get_or places w v) where
    at_place : slice_get (places_from 0 b.binding.words) w ≡ Some v
    at_place = let P : List ℕ → Type 0 = λ ns. slice_get ns w ≡ Some v in subst P is (got_read places w v less read)

    pub inside : v < length bases
    inside = let at = word_at 0 b.binding.words (map elements_of bases) w v all_long at_place in omega (arith, at.number, at.inside, are.long)

    pub own_word : (basis : Basis) → basis ≡ get_or bases v basis → (word : Word) × (slice_get (circuit_in k mul b bases).words w ≡ Some word) × (word.basis ≡ elements_of basis)
    own_word basis got =
        let at = word_at 0 b.binding.words (map elements_of bases) w v all_long at_place in
        let in_bases : slice_get bases v ≡ Some basis = got_read bases v basis inside got in
        let in_map : slice_get (map elements_of bases) v ≡ Some (elements_of basis) = slice_get-map elements_of bases v ∙ rw in_bases refl in
        let same : v ≡ at.index = at.number ∙ zero-add at.index in
        let P : ℕ → Type 0 = λ i. slice_get (map elements_of bases) i ≡ Some (elements_of basis) in
        at.word (elements_of basis) (subst P same in_map)

    pub is_over : (basis : Basis) → basis ≡ get_or bases v basis → IsBasisOver k mul basis
    is_over basis got = are.each basis (v, got_read bases v basis inside got)
