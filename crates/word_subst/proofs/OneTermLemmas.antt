-- One term, bit by bit.
use Rattle.std.proofs.Common.{◌≡◌, ◌∙◌, ap, sym, refl, subst, inl, inr, ℕ, suc, ◌<◌, ◌≤◌, ◌+◌, ◌-◌, ◌*◌, List, [], ◌∷◌, ◌++◌, length, take, drop, Option, Some, arith}
use Rattle.std.specs.Prelude.{slice_get}
use Rattle.poly_mixed.specs.Monomial.{Monomial}
use Rattle.poly_mixed.specs.Polynomial.{Terms, IsTerm}
use Rattle.poly_mixed.specs.Steps.{Step}
use Rattle.poly_mixed.specs.declared.steps.Generator.TheVariants.{Bit}
use Rattle.poly_mixed.proofs.CofactorLemmas.{rising-filter}
use Rattle.stage_model.specs.WordStage.{is_of_word, word_bits}
use Rattle.stage_model.specs.PlainWord.{IsReading, IsProductOf}
use Rattle.stage_model.proofs.WordPolyLemmas.{filter_passes, own_range}
use Rattle.word_subst.specs.Read.{multiplier_at}
use Rattle.word_subst.specs.ReadSteps.{IsReadStep, TellsFirst}
use Rattle.word_subst.proofs.Telling.{TellsMultiplier}
use Rattle.std.specs.List.Sorted.{IsStrictlySortedBy}
use Rattle.std.specs.Ordering.{nat_cmp}
use Rattle.lists.specs.laws.ListLaws.{length-push}
use Rattle.lists.specs.laws.NumberLaws.{mul_few}
use Rattle.lists.specs.laws.ReadLaws.{got_push}
use Rattle.word_subst.proofs.RisingLemmas.{few_between, rest_is, drop_rises}
use Rattle.word_subst.proofs.MultiplierLemmas.{multiplier_is}
use Rattle.poly_mixed.proofs.RecorderLemmas.{tells_none, tells_more}

-- the first rank of a word
pub rank_low : (k m w : ℕ) → m ≡ k → k ≤ 64 → w < 8 → m * w ≤ 512
rank_low k m w same small inside = mul_few m w 64 8 (omega arith) (omega arith)

module _ (k w : ℕ) (t : Monomial × ℕ) where
  -- a term has no more bits of a word than the word has
  pub few_bits : IsTerm k t → length (word_bits k w t) ≤ k
  few_bits is =
      let long = few_between (k * w) (k * w + k) (word_bits k w t) (omega arith) (rising-filter (is_of_word k w) t.0.bits is.monomial.rising)
      (λ r has. own_range k w r (filter_passes (is_of_word k w) t.0.bits has.0 r has.1)) in
      less (length (word_bits k w t)) (k * w) long
    where
      less : (n b : ℕ) → n + b ≤ b + k → n ≤ k
      less n b long = omega arith

  -- the place of a bit of the word
  pub bit_place : (j r : ℕ) → slice_get (word_bits k w t) j ≡ Some r → (k * w ≤ r) × (r - k * w < k) × (k * w + (r - k * w) ≡ r)
  bit_place j r got = by (k * w) (own_range k w r (filter_passes (is_of_word k w) t.0.bits j r got))
    where
      by : (b : ℕ) → (b ≤ r) × (r < b + k) → (b ≤ r) × (r - b < k) × (b + (r - b) ≡ r)
      by b range = (range.0, omega (arith, range.0, range.1), omega (arith, range.0))

  pub place_in : (count j r : ℕ) → count ≡ k → slice_get (word_bits k w t) j ≡ Some r → (count * w ≤ r) × (r - count * w < k)
  place_in count j r same got =
      let place = bit_place j r got in
      let P : ℕ → Type 0 = λ x. (x * w ≤ r) × (r - x * w < k) in
      subst P (sym same) (place.0, place.1)

  -- the bits above one, as a slice
  pub later_is : (own slice : List ℕ) (j : ℕ) → own ≡ word_bits k w t → slice ≡ own → take (length slice - (j + 1)) (drop (j + 1) slice) ≡ drop (suc j) (word_bits k w t)
  later_is own slice j is same =
      let up : j + 1 ≡ suc j = omega arith in
      rest_is (j + 1) slice ∙ (ap (λ n. drop n slice) up ∙ ap (λ xs. drop (suc j) xs) (same ∙ is))

  pub later_rises : (own slice : List ℕ) (j : ℕ) → IsTerm k t → own ≡ word_bits k w t → slice ≡ own → IsStrictlySortedBy nat_cmp (take (length slice - (j + 1)) (drop (j + 1) slice))
  later_rises own slice j is own_are same =
      let P : List ℕ → Type 0 = IsStrictlySortedBy nat_cmp in
      subst P (sym (later_is own slice j own_are same)) (drop_rises (suc j) (word_bits k w t) (rising-filter (is_of_word k w) t.0.bits is.monomial.rising))

  pub few_own : (own : List ℕ) → IsTerm k t → k ≤ 64 → own ≡ word_bits k w t → length own ≤ 64
  few_own own is small same = let few = few_bits is in let P : List ℕ → Type 0 = λ xs. length xs ≤ 64 in subst P (sym same) (omega (arith, few, small))

  module _ (mul : ℕ → ℕ → ℕ) (elements : List ℕ) (bound : ℕ) where
    pub none_told : (old : Option (List Step)) → TellsFirst k mul elements w t 0 old old
    none_told old = record { steps = []; are = record { long = refl; each = λ j step got. absurd (cc) }; told = tells_none old }

    pub one_told : (j r place : ℕ) (product : Terms) (later : List ℕ) (old mid new : Option (List Step)) → IsTerm k t → slice_get (word_bits k w t) j ≡ Some r → place ≡ r - k * w → later ≡ drop (suc j) (word_bits k w t)
        → IsProductOf k mul elements w t j product → TellsFirst k mul elements w t j old mid → TellsMultiplier k mul product later (Bit w place) mid new → TellsFirst k mul elements w t (j + 1) old new
    one_told j r place product later old mid new is got place_is later_is so_far told tells =
        let L : List ℕ → Type 0 = λ ls. TellsMultiplier k mul product ls (Bit w place) mid new in
        let last = subst L later_is tells in
        let full : k * w + place ≡ r = ap (λ x. k * w + x) place_is ∙ (bit_place j r got).2 in
        let multiplier = multiplier_is k mul elements w t is j r product last.multiplier got so_far last.is in
        let step : Step = (Bit w place, last.multiplier) in
        let own : IsReadStep k mul elements w t j step = here j r place last.multiplier full got multiplier in
        record {
          steps = told.steps ++ step ∷ [];
          are = record {
            long = length-push told.steps step ∙ ap (λ m. m + 1) told.are.long;
            each = λ i other at. elim (got_push told.steps step i other at) [
              | inl front ↦ told.are.each i other front.0
              | inr end ↦
                  let P : ℕ → Type 0 = λ n. IsReadStep k mul elements w t n step in
                  let Q : Step → Type 0 = λ s. IsReadStep k mul elements w t i s in
                  let at_j : j ≡ i = sym (end.0 ∙ told.are.long) in
                  subst Q (sym end.1) (subst P at_j own)
            ];
          };
          told = tells_more old mid new told.steps (step ∷ []) told.told last.told;
        }
      where
        here : (j r place : ℕ) (ts : Terms) → k * w + place ≡ r → slice_get (word_bits k w t) j ≡ Some r → IsReading k mul elements w (multiplier_at k mul w t r) ts → IsReadStep k mul elements w t j (Bit w place, ts)
        here j r place ts full got is =
            let M : ℕ → Type 0 = λ n. IsReading k mul elements w (multiplier_at k mul w t n) ts in
            record { place = place; at = got ∙ ap Some (sym full); generator = refl; multiplier = subst M (sym full) is }
