-- One word, term by term.
use Rattle.std.proofs.Common.{◌≡◌, ◌∙◌, ap, sym, refl, subst, inl, inr, ℕ, ◌<◌, ◌≤◌, ◌+◌, List, [], ◌∷◌, ◌++◌, length, take, Option, Some, None, Result, Ok, Err, arith, append-nil, bit_xor}
use Rattle.std.specs.Prelude.{slice_get, IfOk, IfSome}
use Rattle.std.proofs.lemmas.Bool.{cases_eq}
use Rattle.std.proofs.lemmas.List.{append_assoc, take_all, take_more}
use Rattle.std.proofs.lemmas.Option.{slice_get_within, get_or_from_slice_get}
use Rattle.poly_mixed.specs.Monomial.{Monomial, text_cmp}
use Rattle.poly_mixed.specs.Sum.{plus}
use Rattle.poly_mixed.proofs.FieldLaws.{IsField}
use Rattle.std.specs.List.{AllByRecursion}
use Rattle.std.specs.List.Sorted.{IsStrictlySortedBy}
use Rattle.std.specs.Map.{keys_of}
use Rattle.poly_mixed.specs.Polynomial.{Terms, IsReduced, value}
use Rattle.poly_mixed.specs.Steps.{Step}
use Rattle.poly_mixed.specs.declared.stage.ReduceFault.{ReduceFault}
use Rattle.poly_mixed.specs.declared.stage.ReduceFault.TheVariants.{TooManyTerms, OutOfMemory}
use Rattle.poly_mixed.specs.declared.stage.Stage.TheVariants.{Cut, WordProduct, WordSum, SpecProduct, SpecSum, InstanceProduct, InstanceSum}
use Rattle.stage_model.specs.WordStage.{word_bits}
use Rattle.stage_model.specs.PlainWord.{IsSumOf}
use Rattle.word_subst.specs.Read.{HasWithin, sum_at, IsTermWithin, AreTermsWithin}
use Rattle.word_subst.specs.ReadSteps.{AreFirstSteps, AreReadSteps, TellsFirst, TellsTerms}
use Rattle.word_subst.specs.ReadRefusal.{IsTermRefusal, IsWordRefusal}
use Rattle.poly_mixed.proofs.RecorderLemmas.{tells_none, tells_more}
use Rattle.stage_model.proofs.WordPolyLemmas.{sum_next}
use Rattle.word_subst.specs.Spread.{Groups, total, IsGroup, all_terms}
use Rattle.word_subst.specs.Rest.{AddsTerm}
use Rattle.word_subst.specs.Prefix.{Products, AreProducts}
use Rattle.word_subst.specs.AtOnce.{IsReadAtOnce}
use Rattle.word_subst.specs.private.Reading.{IsReadTo, IsWordRead}
use Rattle.word_subst.proofs.SpreadLemmas.{nothing_sorted, gathered_reduced, gathered_value, groups_length, groups_terms, groups_nonzero}

module _ (k : ℕ) (mul : ℕ → ℕ → ℕ) (elements : List ℕ) (w : ℕ) (terms : Terms) (bound : ℕ) where
  pub no_terms_within : AreTermsWithin k mul elements w terms 0 bound
  no_terms_within = record { products = λ i t less at. absurd (omega arith); sums = λ s some most. absurd (omega arith) }

  pub one_more_within : (n : ℕ) (t : Monomial × ℕ) (sum : Terms) → slice_get terms n ≡ Some t → AreTermsWithin k mul elements w terms n bound → IsTermWithin k mul elements w t bound
      → IsSumOf k mul elements w terms (n + 1) sum → length sum ≤ bound → AreTermsWithin k mul elements w terms (n + 1) bound
  one_more_within n t sum at before term is within = record {
    products = λ i u less got. elim (cases_eq i n) [
      | inl same ↦
          let A : ℕ → Type 0 = λ j. slice_get terms j ≡ Some u in
          let here : slice_get terms n ≡ Some u = subst A same got in
          let equal : t ≡ u = cc in
          let P : Monomial × ℕ → Type 0 = λ v. IsTermWithin k mul elements w v bound in
          subst P equal term
      | inr other ↦ before.products i u (omega arith) got
    ];
    sums = λ s some most. elim (cases_eq s (n + 1)) [
      | inl same ↦
          let P : ℕ → Type 0 = λ i. HasWithin k mul elements w (sum_at k mul w terms i) bound in
          subst P (sym same) (record { terms = sum; is = is; within = within })
      | inr other ↦ before.sums s some (omega arith)
    ];
  }

  pub product_first : (n : ℕ) (t : Monomial × ℕ) (fault : ReduceFault) → slice_get terms n ≡ Some t → AreTermsWithin k mul elements w terms n bound → IsTermRefusal k mul elements w t (n + 1) bound fault → IsWordRefusal k mul elements w terms bound fault
  product_first n t (TooManyTerms (WordProduct v s j) m) at before is = (is.0, record { term = t; reached = record { place = n; number = sym is.1; at = at; before = before }; over = is.2 })
  product_first n t (TooManyTerms (WordSum v s) m) at before is = absurd is
  product_first n t (TooManyTerms (Cut c) m) at before is = absurd is
  product_first n t (TooManyTerms (SpecProduct s j) m) at before is = absurd is
  product_first n t (TooManyTerms (SpecSum s) m) at before is = absurd is
  product_first n t (TooManyTerms (InstanceProduct i s j) m) at before is = absurd is
  product_first n t (TooManyTerms (InstanceSum i s) m) at before is = absurd is
  product_first n t OutOfMemory at before is = tt

  sum_first : (n : ℕ) (t : Monomial × ℕ) (sum : Terms) (fault : ReduceFault) → slice_get terms n ≡ Some t → AreTermsWithin k mul elements w terms n bound → IsTermWithin k mul elements w t bound → IsSumOf k mul elements w terms (n + 1) sum
      → bound < length sum → fault ≡ TooManyTerms (WordSum w (n + 1)) (length sum) → IsWordRefusal k mul elements w terms bound fault
  sum_first n t sum fault at before term is over same =
      let P : ReduceFault → Type 0 = IsWordRefusal k mul elements w terms bound in
      subst P (sym same) (refl, record { term = t; reached = record { place = n; number = refl; at = at; before = before }; products = term; over = record { terms = sum; is = is; size = refl; over = over } })

  steps_push : (ts : Terms) (t : Monomial × ℕ) (front last : List Step) → AreReadSteps k mul elements w ts front → AreFirstSteps k mul elements w t (length (word_bits k w t)) last → AreReadSteps k mul elements w (ts ++ t ∷ []) (front ++ last)
  steps_push [] t front last none own = (last, [], own, refl, ap (λ xs. xs ++ last) none ∙ sym (append-nil last))
  steps_push (u ∷ us) t front last are own =
      (are.0, are.1 ++ last, are.2, steps_push us t are.1 last are.3 own, ap (λ xs. xs ++ last) are.4 ∙ append_assoc are.0 are.1 last)

  pub nothing_told : (old : Option (List Step)) → TellsTerms k mul elements w (take 0 terms) old old
  nothing_told old = record { steps = []; are = refl; told = tells_none old }

  pub more_told : (n : ℕ) (t : Monomial × ℕ) (old mid new : Option (List Step)) → slice_get terms n ≡ Some t → TellsTerms k mul elements w (take n terms) old mid → TellsFirst k mul elements w t (length (word_bits k w t)) mid new
      → TellsTerms k mul elements w (take (n + 1) terms) old new
  more_told n t old mid new at so_far last =
      let is : take (n + 1) terms ≡ take n terms ++ t ∷ [] = take_more terms n t (slice_get_within terms n t at) ∙ ap (λ x. take n terms ++ x ∷ []) (get_or_from_slice_get terms n t t at) in
      let P : Terms → Type 0 = λ ts. TellsTerms k mul elements w ts old new in
      subst P (sym is) (record { steps = so_far.steps ++ last.steps; are = steps_push (take n terms) t so_far.steps last.steps so_far.are last.are; told = tells_more old mid new so_far.steps last.steps so_far.told last.told })

  pub all_told : (n : ℕ) (old new : Option (List Step)) → length terms ≤ n → TellsTerms k mul elements w (take n terms) old new → TellsTerms k mul elements w terms old new
  all_told n old new most so_far =
      let P : Terms → Type 0 = λ ts. TellsTerms k mul elements w ts old new in
      subst P (take_all n terms most) so_far

  -- where nobody asks for pairs, those of terms that are read at once are there all the same
  pub untold_read : {A E : Type 0} (terms_of : A → Terms) (steps : Option (List Step)) → steps ≡ None → (r : Result (Option A) E) → IfOk r (λ o. IfSome o (λ q. IsReadAtOnce k mul elements w terms bound (terms_of q)))
      → IfOk r (λ o. IfSome o (λ q. IsWordRead k mul elements w terms bound steps steps (terms_of q)))
  untold_read terms_of steps none (Ok (Some q)) is =
      let P : Option (List Step) → Type 0 = λ o. TellsTerms k mul elements w terms o o in
      record { sum = is.sum; small = is.small; within = is.within; told = subst P (sym none) is.quiet }
  untold_read terms_of steps none (Ok None) is = tt
  untold_read terms_of steps none (Err e) is = tt

-- ---- the sum of the terms

module _ {k : ℕ} {mul : ℕ → ℕ → ℕ} (f : IsField k mul) (elements : List ℕ) (w : ℕ) (inside : w < 8) (terms : Terms) where
  groups_reduced : (gs : Groups) → AllByRecursion (IsGroup w k) gs → IsReduced k (plus text_cmp [] (all_terms w gs))
  groups_reduced gs all = gathered_reduced f (all_terms w gs) (groups_terms w k inside gs all) (groups_nonzero w k inside gs all)

  pub nothing_summed : (bound : ℕ) (gs : Groups) → gs ≡ [] → AllByRecursion (IsGroup w k) gs × IsStrictlySortedBy text_cmp (keys_of gs) × IsSumOf k mul elements w terms 0 (plus text_cmp [] (all_terms w gs)) × (total gs ≤ bound)
  nothing_summed bound gs none =
      let P : Groups → Type 0 = λ hs. AllByRecursion (IsGroup w k) hs × IsStrictlySortedBy text_cmp (keys_of hs) × IsSumOf k mul elements w terms 0 (plus text_cmp [] (all_terms w hs)) × (total hs ≤ bound) in
      subst P (sym none) (tt, nothing_sorted, record { reduced = gathered_reduced f [] tt tt; values = λ p d at bits. refl }, omega arith)

  pub sum_added : (i : ℕ) (t : Monomial × ℕ) (old new : Groups) → slice_get terms i ≡ Some t → AllByRecursion (IsGroup w k) old → AllByRecursion (IsGroup w k) new → IsSumOf k mul elements w terms i (plus text_cmp [] (all_terms w old)) → AddsTerm k mul elements w t old new
      → IsSumOf k mul elements w terms (i + 1) (plus text_cmp [] (all_terms w new))
  sum_added i t old new at all more before added =
      sum_next k mul elements w terms i t (plus text_cmp [] (all_terms w old)) added.part (plus text_cmp [] (all_terms w new)) (slice_get_within terms i t at) (get_or_from_slice_get terms i t t at) before added.is (groups_reduced new more)
      (λ p at_p. gathered_value f p at_p (all_terms w new) (groups_terms w k inside new more) ∙ (added.values p at_p ∙ ap (λ n. bit_xor n (value mul p added.part)) (sym (gathered_value f p at_p (all_terms w old) (groups_terms w k inside old all)))))

  -- ---- how far the code has come

  pub none_read : (bound : ℕ) (held : Products) (sums : Groups) → sums ≡ [] → AreProducts k mul elements w bound held → IsReadTo k mul elements w terms bound 0 held sums
  none_read bound held sums none are =
      let start = nothing_summed bound sums none in
      record { products = are; groups = start.0; ordered = start.1; sum = start.2; small = start.3; within = no_terms_within k mul elements w terms bound }

  module _ (bound n : ℕ) (t : Monomial × ℕ) (at : slice_get terms n ≡ Some t) (held : Products) (old new : Groups) (before : IsReadTo k mul elements w terms bound n held old) (term : IsTermWithin k mul elements w t bound) (all : AllByRecursion (IsGroup w k) new) (up : IsStrictlySortedBy text_cmp (keys_of new)) (added : AddsTerm k mul elements w t old new) where
    sum_with : IsSumOf k mul elements w terms (n + 1) (plus text_cmp [] (all_terms w new))
    sum_with = sum_added n t old new at before.groups all before.sum added

    size_is : length (plus text_cmp [] (all_terms w new)) ≡ total new
    size_is = groups_length w k inside new all up

    pub one_more_read : (size : ℕ) (next : Products) → size ≡ total new → AreProducts k mul elements w bound next → size ≤ bound → IsReadTo k mul elements w terms bound (n + 1) next new
    one_more_read size next is are small =
        let few : total new ≤ bound = omega (arith, is, small) in
        record {
          products = are;
          groups = all;
          ordered = up;
          sum = sum_with;
          small = few;
          within = one_more_within k mul elements w terms bound n t (plus text_cmp [] (all_terms w new)) at before.within term sum_with (omega (arith, few, size_is));
        }

    pub sum_over : (size : ℕ) (fault : ReduceFault) → size ≡ total new → (fault ≡ TooManyTerms (WordSum w (n + 1)) size) × (bound < size) → IsWordRefusal k mul elements w terms bound fault
    sum_over size fault is over =
        let same : size ≡ length (plus text_cmp [] (all_terms w new)) = is ∙ sym size_is in
        sum_first k mul elements w terms bound n t (plus text_cmp [] (all_terms w new)) fault at before.within term sum_with (omega (arith, over.1, same)) (over.0 ∙ ap (TooManyTerms (WordSum w (n + 1))) same)

  pub all_read : (bound : ℕ) (held : Products) (sums : Groups) (old new : Option (List Step)) (ts : Terms) → IsReadTo k mul elements w terms bound (length terms) held sums → TellsTerms k mul elements w terms old new → ts ≡ plus text_cmp [] (all_terms w sums)
      → IsWordRead k mul elements w terms bound old new ts
  all_read bound held sums old new ts read told made =
      let P : Terms → Type 0 = IsWordRead k mul elements w terms bound old new in
      subst P (sym made) (record { sum = read.sum; small = omega (arith, groups_length w k inside sums read.groups read.ordered, read.small); within = read.within; told = told })
