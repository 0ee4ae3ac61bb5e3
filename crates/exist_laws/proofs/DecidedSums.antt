-- All stages of a sum of products are within a bound, or one of them is the first over it, whatever relation each stage is.
use Rattle.std.proofs.Common.{◌≡◌, ◌⊎◌, ◌∙◌, sym, refl, subst, inl, inr, ℕ, zero, suc, ◌<◌, ◌≤◌, ◌+◌, List, length, Some, arith}
use Rattle.std.specs.Prelude.{slice_get}
use Rattle.std.proofs.lemmas.Bool.{cases_lt}
use Rattle.std.proofs.lemmas.Option.{slice_get_within}
use Rattle.lists.specs.laws.ReadLaws.{get_below}
use Rattle.poly_mixed.specs.Polynomial.{Point}
use Rattle.stage_model.specs.Stage.{HasPolynomial, IsWithin}
use Rattle.stage_model.proofs.SearchLemmas.{measured, search, IsDecided, IsOverBound}
use Rattle.term_expand.specs.SumListing.{is_earlier_sum_stage, is_sum_stage}
use Rattle.term_expand.specs.SumValue.{factors_of}
use Rattle.term_expand.specs.Sums.{SumOfProducts}
use Rattle.term_expand.specs.declared.stage.SumStage.{SumStage}
use Rattle.term_expand.specs.declared.stage.SumStage.TheVariants.{TermProduct, TermSum}
use Rattle.exist_laws.specs.Sums.{stages_with}

-- the term of a stage, counted from 1
abbrev term_in : SumStage → ℕ
term_in (TermProduct s j) = s
term_in (TermSum s) = s

-- what comes before is of an earlier term or of the same
earlier_term : (other name : SumStage) → is_earlier_sum_stage other name → (term_in other < term_in name) ⊎ (term_in other ≡ term_in name)
earlier_term (TermProduct r i) (TermProduct s j) (inl low) = inl low
earlier_term (TermProduct r i) (TermProduct s j) (inr tie) = inr tie.0
earlier_term (TermProduct r i) (TermSum s) low = elim (cases_lt r s) [ inl less ↦ inl less | inr past ↦ inr (omega (arith, low, past)) ]
earlier_term (TermSum r) (TermProduct s j) low = inl low
earlier_term (TermSum r) (TermSum s) low = inl low

module _ (k : ℕ) (mul : ℕ → ℕ → ℕ) (sum : SumOfProducts) (stage : SumStage → Point → ℕ → Type 0) (some : (name : SumStage) → is_sum_stage sum name → HasPolynomial k mul (stage name)) (bound : ℕ) where
  -- the stage is within the bound, if it is listed
  abbrev Fine : SumStage → Type 0
  Fine name = is_sum_stage sum name → IsWithin k mul (stage name) bound

  -- the stage is listed and over the bound
  record Over (name : SumStage) : Type 0 where
    pub listed : is_sum_stage sum name
    pub over : IsOverBound k mul (stage name) bound

  judged : (name : SumStage) → is_sum_stage sum name → Fine name ⊎ Over name
  judged name is =
      let made = some name is in
      elim (measured k mul (stage name) bound (length made.0) (record { terms = made.0; is = made.1; size = refl })) [ inl fine ↦ inl (λ any. fine) | inr over ↦ inr (record { listed = is; over = over }) ]

  -- the stages of a term are within the bound
  record TermFine (s : ℕ) : Type 0 where
    pub products : (j : ℕ) → Fine (TermProduct s j)
    pub sum_fine : Fine (TermSum s)

  -- a stage of a term is over the bound, and those of the term before it are within
  record TermOver (s : ℕ) : Type 0 where
    pub name : SumStage
    pub number : term_in name ≡ s
    pub over : Over name
    pub before : (other : SumStage) → term_in other ≡ s → is_earlier_sum_stage other name → Fine other

  of_terms : (name : SumStage) → TermFine (term_in name) → Fine name
  of_terms (TermProduct s j) fine = fine.products j
  of_terms (TermSum s) fine = fine.sum_fine

  -- there is no such term
  none_there : (s : ℕ) → (1 ≤ s → s ≤ length sum → ⊥) → TermFine s
  none_there s none = record {
    products = λ j is. absurd (none (omega (arith, is.number)) (omega (arith, is.number, slice_get_within sum is.place is.term is.at)));
    sum_fine = λ is. absurd (none is.0 is.1);
  }

  module _ (s : ℕ) (less : s < length sum) (t : ℕ × List (ℕ × ℕ)) (at : slice_get sum s ≡ Some t) where
    abbrev factors : ℕ
    factors = length (factors_of t.1)

    past_factors : (j : ℕ) → (1 ≤ j → j ≤ factors → ⊥) → Fine (TermProduct (s + 1) j)
    past_factors j none is =
        let place : is.place ≡ s = omega (arith, is.number) in
        let P : ℕ → Type 0 = λ l. slice_get sum l ≡ Some is.term in
        let here : slice_get sum s ≡ Some is.term = subst P place is.at in
        let there : slice_get sum s ≡ Some t = at in
        let same : is.term ≡ t = cc in
        let Q : ℕ × List (ℕ × ℕ) → Type 0 = λ u. j ≤ length (factors_of u.1) in
        absurd (none is.some (subst Q same is.most))

    one_product : (j : ℕ) → Fine (TermProduct (s + 1) j) ⊎ Over (TermProduct (s + 1) j)
    one_product zero = inl (past_factors zero (λ some most. absurd (omega (arith, some))))
    one_product (suc j) =
        elim (cases_lt j factors) [
          | inl low ↦ judged (TermProduct (s + 1) (suc j)) (record { place = s; term = t; number = refl; at = at; some = omega arith; most = omega (arith, low) })
          | inr past ↦ inl (past_factors (suc j) (λ some most. absurd (omega (arith, past, most))))
        ]

    -- within one term
    before_product : (j : ℕ) → ((i : ℕ) → i < j → Fine (TermProduct (s + 1) i)) → (other : SumStage) → term_in other ≡ s + 1 → is_earlier_sum_stage other (TermProduct (s + 1) j) → Fine other
    before_product j before (TermProduct r i) equal (inl low) = absurd (omega (arith, equal, low))
    before_product j before (TermProduct r i) equal (inr tie) = let P : ℕ → Type 0 = λ l. Fine (TermProduct l i) in subst P (sym equal) (before i tie.1)
    before_product j before (TermSum r) equal low = absurd (omega (arith, equal, low))

    before_sum : ((i : ℕ) → Fine (TermProduct (s + 1) i)) → (other : SumStage) → term_in other ≡ s + 1 → is_earlier_sum_stage other (TermSum (s + 1)) → Fine other
    before_sum before (TermProduct r i) equal low = let P : ℕ → Type 0 = λ l. Fine (TermProduct l i) in subst P (sym equal) (before i)
    before_sum before (TermSum r) equal low = absurd (omega (arith, equal, low))

    summed_decided : ((j : ℕ) → Fine (TermProduct (s + 1) j)) → TermFine (s + 1) ⊎ TermOver (s + 1)
    summed_decided fine =
        elim (judged (TermSum (s + 1)) (omega arith, omega (arith, less))) [
          | inl sum_is ↦ inl (record { products = fine; sum_fine = sum_is })
          | inr over ↦ inr (record { name = TermSum (s + 1); number = refl; over = over; before = before_sum fine })
        ]

    term_decided : TermFine (s + 1) ⊎ TermOver (s + 1)
    term_decided =
        elim (search (suc factors) (λ j. Fine (TermProduct (s + 1) j)) (λ j. Over (TermProduct (s + 1) j)) (λ j low. one_product j)) [
          | inl fine ↦ summed_decided (λ j. elim (cases_lt j (suc factors)) [ inl low ↦ fine j low | inr past ↦ past_factors j (λ some most. absurd (omega (arith, past, most))) ])
          | inr first ↦ inr (record { name = TermProduct (s + 1) first.at; number = refl; over = first.is; before = before_product first.at first.before })
        ]

  one_term : (s : ℕ) → TermFine s ⊎ TermOver s
  one_term zero = inl (none_there zero (λ some most. absurd (omega (arith, some))))
  one_term (suc s) =
      elim (cases_lt s (length sum)) [
        | inl less ↦
            let t = get_below sum s less in
            let next : s + 1 ≡ suc s = omega arith in
            let P : ℕ → Type 0 = λ l. TermFine l ⊎ TermOver l in
            subst P next (term_decided s less t.0 t.1)
        | inr past ↦ inl (none_there (suc s) (λ some most. absurd (omega (arith, past, most))))
      ]

  pub sum_decided : IsDecided k mul (stages_with sum stage) bound
  sum_decided =
      elim (search (suc (length sum)) TermFine TermOver (λ s low. one_term s)) [
        | inl fine ↦ inl (λ name. of_terms name (elim (cases_lt (term_in name) (suc (length sum))) [ inl low ↦ fine (term_in name) low | inr past ↦ none_there (term_in name) (λ some most. absurd (omega (arith, past, most))) ]))
        | inr first ↦
            let over = first.is in
            inr (
              over.name,
              over.over.over.size,
              record {
                listed = over.over.listed;
                size = over.over.over.has;
                over = over.over.over.over;
                before = λ other is low.
                    elim (earlier_term other over.name low) [
                      | inl less ↦ of_terms other (first.before (term_in other) (omega (arith, less, over.number))) is
                      | inr equal ↦ over.before other (equal ∙ over.number) low is
                    ];
              },
            )
      ]
