-- Word by word: the stages of words so far, the first over the bound, and the pairs so far.
use Rattle.std.proofs.Common.{◌≡◌, ◌⊎◌, sym, refl, subst, inl, inr, ℕ, suc, ◌<◌, ◌≤◌, ◌+◌, List, [], ◌++◌, length, Option, Some, arith}
use Rattle.std.specs.Prelude.{slice_get}
use Rattle.std.proofs.lemmas.Option.{slice_get_within}
use Rattle.std.proofs.lemmas.Bool.{cases_order}
use Rattle.circuit_model.specs.Word.{Word}
use Rattle.circuit_model.specs.Circuit.{Circuit}
use Rattle.circuit_model.specs.WellFormed.{IsWellFormed}
use Rattle.poly_mixed.specs.Monomial.{Monomial}
use Rattle.poly_mixed.specs.Polynomial.{Terms}
use Rattle.poly_mixed.specs.Steps.{Step, Tells}
use Rattle.poly_mixed.specs.declared.stage.ReduceFault.{ReduceFault}
use Rattle.poly_mixed.specs.declared.stage.ReduceFault.TheVariants.{TooManyTerms, OutOfMemory}
use Rattle.poly_mixed.specs.declared.stage.Stage.{Stage}
use Rattle.poly_mixed.specs.declared.stage.Stage.TheVariants.{Cut, WordProduct, WordSum, SpecProduct, SpecSum, InstanceProduct, InstanceSum}
use Rattle.stage_model.specs.Mix.{IsMix}
use Rattle.stage_model.specs.Stage.{IsOfStage, IsWithin}
use Rattle.stage_model.specs.WordStage.{word_bits, IsTermOf, IsTermProduct, IsTermSum}
use Rattle.stage_model.specs.WordSteps.{AreWordStepsTo}
use Rattle.stage_model.specs.Listing.{IsOver, AreAllWithin, IsRefusal}
use Rattle.stage_model.specs.WordListing.{HasProduct, HasSum, is_word_stage, word_stage_of, is_earlier_word_stage, IsEarlier, word_listing}
use Rattle.stage_model.proofs.WordStageLemmas.{one_term_of}
use Rattle.word_subst.specs.Read.{product_at, sum_at, HasWithin, HasOver, IsTermWithin, AreTermsWithin}
use Rattle.word_subst.specs.ReadSteps.{TellsTerms}
use Rattle.word_subst.specs.ReadRefusal.{IsReached, IsProductOver, IsWordRefusal}
use Rattle.word_subst.specs.Recorded.{IsRecorded}
use Rattle.word_subst.specs.WordStages.{IsOfNoWords, IsWordStageRefusal, IsStageFault}
use Rattle.poly_mixed.proofs.RecorderLemmas.{tells_none, tells_more}
use Rattle.word_subst.proofs.LiftedLemmas.{lift_product, lift_sum, word_steps, size_of, product_within, products_to, sums_to, number_within}

-- the stages of the first w words are within the bound
pub record AreWithinTo (c : Circuit) (w bound : ℕ) : Type 0 where
  pub products : (v s j : ℕ) → v < w → HasProduct c v s j → IsWithin c.k c.product (IsTermProduct c v s j) bound
  pub sums : (v s : ℕ) → v < w → HasSum c v s → IsWithin c.k c.product (IsTermSum c v s) bound

-- where the recorder tells its pairs, it holds what it held and then those of the first w words
pub record IsRecordedTo (c : Circuit) (w : ℕ) (old new : Option (List Step)) : Type 0 where
  pub steps : List Step
  pub are : AreWordStepsTo c w steps
  pub told : Tells old new steps

-- what is earlier is before the term, or of the term
earlier : (v r w s : ℕ) (same : Type 0) → IsEarlier v r w s same → ((v < w) ⊎ ((v ≡ w) × (r < s))) ⊎ ((v ≡ w) × (r ≡ s) × same)
earlier v r w s same (inl less) = inl (inl less)
earlier v r w s same (inr (word, inl less)) = inl (inr (word, less))
earlier v r w s same (inr (word, inr (term, holds))) = inr (word, term, holds)

module _ (c : Circuit) where
  pub nothing_within : (bound : ℕ) → AreWithinTo c 0 bound
  nothing_within bound = record { products = λ v s j less has. absurd (omega arith); sums = λ v s less has. absurd (omega arith) }

  pub nothing_recorded : (old : Option (List Step)) → IsRecordedTo c 0 old old
  nothing_recorded old = record { steps = []; are = refl; told = tells_none old }

  pub all_recorded : (w : ℕ) (old new : Option (List Step)) → w ≡ length c.words → IsRecordedTo c w old new → IsRecorded c old new
  all_recorded w old new same told =
      let P : ℕ → Type 0 = λ n. AreWordStepsTo c n told.steps in
      record { steps = told.steps; are = subst P same told.are; told = told.told }

  pub all_within : (w bound : ℕ) → w ≡ length c.words → AreWithinTo c w bound → AreAllWithin c.k c.product (word_listing c) bound
  all_within w bound same all (WordProduct v s j) listed = all.products v s j (omega (arith, listed.word, same)) listed
  all_within w bound same all (WordSum v s) listed = all.sums v s (omega (arith, listed.word, same)) listed
  all_within w bound same all (Cut t) listed = absurd listed
  all_within w bound same all (SpecProduct s j) listed = absurd listed
  all_within w bound same all (SpecSum s) listed = absurd listed
  all_within w bound same all (InstanceProduct i s j) listed = absurd listed
  all_within w bound same all (InstanceSum i s) listed = absurd listed

module _ (c : Circuit) (well : IsWellFormed c) (w : ℕ) (word : Word) (at_word : slice_get c.words w ≡ Some word) (elements : List ℕ) (basis : word.basis ≡ elements) (terms : Terms) (before : IsOfStage c.k c.product (IsMix c w) terms) (bound : ℕ) where
  pub one_word_within : AreWithinTo c w bound → AreTermsWithin c.k c.product elements w terms (length terms) bound → AreWithinTo c (w + 1) bound
  one_word_within all own = record {
    products = λ v s j less has. elim (cases_order v w) [
      | inl same ↦
          let P : ℕ → Type 0 = λ i. HasProduct c i s j in
          let Q : ℕ → Type 0 = λ i. IsWithin c.k c.product (IsTermProduct c i s j) bound in
          let here = subst P same has in
          subst Q (sym same) (products_to c well w word at_word elements basis terms before bound (length terms) s j own (number_within c well w word at_word elements basis terms before s here.term here.is_term) here)
      | inr other ↦ elim other [ inl low ↦ all.products v s j low has | inr high ↦ absurd (omega arith) ]
    ];
    sums = λ v s less has. elim (cases_order v w) [
      | inl same ↦
          let P : ℕ → Type 0 = λ i. HasSum c i s in
          let Q : ℕ → Type 0 = λ i. IsWithin c.k c.product (IsTermSum c i s) bound in
          let here = subst P same has in
          subst Q (sym same) (sums_to c well w word at_word elements basis terms before bound (length terms) s own (number_within c well w word at_word elements basis terms before s here.term here.is_term) here)
      | inr other ↦ elim other [ inl low ↦ all.sums v s low has | inr high ↦ absurd (omega arith) ]
    ];
  }

  pub one_word_recorded : (old mid new : Option (List Step)) → IsRecordedTo c w old mid → TellsTerms c.k c.product elements w terms mid new → IsRecordedTo c (w + 1) old new
  one_word_recorded old mid new so_far tells =
      let up : suc w ≡ w + 1 = omega arith in
      let P : ℕ → Type 0 = λ n. IsRecordedTo c n old new in
      subst P up (record {
        steps = so_far.steps ++ tells.steps;
        are = (so_far.steps, tells.steps, so_far.are, word_steps c well w word at_word elements basis terms before tells.steps tells.are, refl);
        told = tells_more old mid new so_far.steps tells.steps so_far.told tells.told;
      })

  module _ (all : AreWithinTo c w bound) where
    -- the stages before term s of the word
    module _ (s : ℕ) (t : Monomial × ℕ) (reached : IsReached c.k c.product elements w terms bound s t) where
      product_before : (v r i : ℕ) → HasProduct c v r i → (v < w) ⊎ ((v ≡ w) × (r < s)) → IsWithin c.k c.product (IsTermProduct c v r i) bound
      product_before v r i has (inl less) = all.products v r i less has
      product_before v r i has (inr same) =
          let P : ℕ → Type 0 = λ n. HasProduct c n r i in
          let Q : ℕ → Type 0 = λ n. IsWithin c.k c.product (IsTermProduct c n r i) bound in
          subst Q (sym same.0) (products_to c well w word at_word elements basis terms before bound reached.place r i reached.before (omega (arith, reached.number, same.1)) (subst P same.0 has))

      sum_before : (v r : ℕ) → HasSum c v r → (v < w) ⊎ ((v ≡ w) × (r < s)) → IsWithin c.k c.product (IsTermSum c v r) bound
      sum_before v r has (inl less) = all.sums v r less has
      sum_before v r has (inr same) =
          let P : ℕ → Type 0 = λ n. HasSum c n r in
          let Q : ℕ → Type 0 = λ n. IsWithin c.k c.product (IsTermSum c n r) bound in
          subst Q (sym same.0) (sums_to c well w word at_word elements basis terms before bound reached.place r reached.before (omega (arith, reached.number, same.1)) (subst P same.0 has))

      is_term : IsTermOf c w s t
      is_term = record { terms = terms; before = before; place = reached.place; number = reached.number; at = reached.at }

      -- a product of this term
      own_product : (v r i : ℕ) → HasWithin c.k c.product elements w (product_at c.k c.product w t i) bound → v ≡ w → r ≡ s → IsWithin c.k c.product (IsTermProduct c v r i) bound
      own_product v r i has first second =
          let P : ℕ → Type 0 = λ n. IsWithin c.k c.product (IsTermProduct c n r i) bound in
          let Q : ℕ → Type 0 = λ n. IsWithin c.k c.product (IsTermProduct c w n i) bound in
          subst P (sym first) (subst Q (sym second) (product_within c well w word at_word elements basis terms before bound reached.place s i t reached.number reached.at has))

      -- it has its bits
      own_bits : (v r i : ℕ) → HasProduct c v r i → v ≡ w → r ≡ s → i ≤ length (word_bits c.k w t)
      own_bits v r i has first second =
          let P : ℕ → Type 0 = λ n. HasProduct c n r i in
          let Q : ℕ → Type 0 = λ n. HasProduct c w n i in
          let here = subst Q second (subst P first has) in
          let same = one_term_of c well w s here.term t here.is_term is_term in
          let R : Monomial × ℕ → Type 0 = λ u. i ≤ length (word_bits c.k w u) in
          subst R same here.bits

      before_product : (j n : ℕ) → IsProductOver c.k c.product elements w t bound j n → (other : Stage) → is_word_stage c other → is_earlier_word_stage other (WordProduct w s j) → IsWithin c.k c.product (word_stage_of c other) bound
      before_product j n over (WordProduct v r i) listed comes = elim (earlier v r w s (i < j) comes) [
        | inl less ↦ product_before v r i listed less
        | inr own ↦ own_product v r i (over.before i listed.some own.2) own.0 own.1
      ]
      before_product j n over (WordSum v r) listed comes = elim (earlier v r w s ⊥ comes) [
        | inl less ↦ sum_before v r listed less
        | inr own ↦ absurd own.2
      ]
      before_product j n over (Cut m) listed comes = absurd listed
      before_product j n over (SpecProduct r i) listed comes = absurd listed
      before_product j n over (SpecSum r) listed comes = absurd listed
      before_product j n over (InstanceProduct m r i) listed comes = absurd listed
      before_product j n over (InstanceSum m r) listed comes = absurd listed

      before_sum : IsTermWithin c.k c.product elements w t bound → (other : Stage) → is_word_stage c other → is_earlier_word_stage other (WordSum w s) → IsWithin c.k c.product (word_stage_of c other) bound
      before_sum term (WordProduct v r i) listed comes = elim (earlier v r w s (Unit {0}) comes) [
        | inl less ↦ product_before v r i listed less
        | inr own ↦ own_product v r i (term i listed.some (own_bits v r i listed own.0 own.1)) own.0 own.1
      ]
      before_sum term (WordSum v r) listed comes = elim (earlier v r w s ⊥ comes) [
        | inl less ↦ sum_before v r listed less
        | inr own ↦ absurd own.2
      ]
      before_sum term (Cut m) listed comes = absurd listed
      before_sum term (SpecProduct r i) listed comes = absurd listed
      before_sum term (SpecSum r) listed comes = absurd listed
      before_sum term (InstanceProduct m r i) listed comes = absurd listed
      before_sum term (InstanceSum m r) listed comes = absurd listed

      product_over : (j n : ℕ) → IsProductOver c.k c.product elements w t bound j n → IsOver c.k c.product (word_listing c) bound (WordProduct w s j) n
      product_over j n over = record {
        listed = record { word = slice_get_within c.words w word at_word; term = t; is_term = is_term; some = over.some; bits = over.bits };
        size = size_of c well w word at_word elements basis terms before (IsTermProduct c w s j) (product_at c.k c.product w t j) bound n (λ ts is. lift_product c well w word at_word elements basis terms before reached.place s j t ts reached.number reached.at is) over.over;
        over = over.over.over;
        before = before_product j n over;
      }

      sum_over : (n : ℕ) → IsTermWithin c.k c.product elements w t bound → HasOver c.k c.product elements w (sum_at c.k c.product w terms s) bound n → IsOver c.k c.product (word_listing c) bound (WordSum w s) n
      sum_over n term over = record {
        listed = record { word = slice_get_within c.words w word at_word; term = t; is_term = is_term };
        size = size_of c well w word at_word elements basis terms before (IsTermSum c w s) (sum_at c.k c.product w terms s) bound n (λ ts is. lift_sum c well w word at_word elements basis terms before s ts is) over;
        over = over.over;
        before = before_sum term;
      }

    -- what one word refuses, all words refuse
    pub refused : (fault : ReduceFault) → IsWordRefusal c.k c.product elements w terms bound fault → IsRefusal c.k c.product (word_listing c) bound fault
    refused (TooManyTerms (WordProduct v s j) n) is =
        let P : ℕ → Type 0 = λ m. IsOver c.k c.product (word_listing c) bound (WordProduct m s j) n in
        subst P (sym is.0) (product_over s is.1.term is.1.reached j n is.1.over)
    refused (TooManyTerms (WordSum v s) n) is =
        let P : ℕ → Type 0 = λ m. IsOver c.k c.product (word_listing c) bound (WordSum m s) n in
        subst P (sym is.0) (sum_over s is.1.term is.1.reached n is.1.products is.1.over)
    refused (TooManyTerms (Cut t) n) is = absurd is
    refused (TooManyTerms (SpecProduct s j) n) is = absurd is
    refused (TooManyTerms (SpecSum s) n) is = absurd is
    refused (TooManyTerms (InstanceProduct i s j) n) is = absurd is
    refused (TooManyTerms (InstanceSum i s) n) is = absurd is
    refused OutOfMemory is = tt

-- ---- where the polynomial in bits is that of the mix of no words

pub stage_fault : (c : Circuit) (bits : Terms) (bound : ℕ) (fault : ReduceFault) → (IsOfNoWords c bits → IsWordStageRefusal c bound fault) → IsStageFault c bits bound fault
stage_fault c bits bound OutOfMemory is = tt
stage_fault c bits bound (TooManyTerms stage n) is = record { is = is }

pub stage_refused : (c : Circuit) (bits : Terms) (bound : ℕ) (fault : ReduceFault) → IsOfNoWords c bits → IsStageFault c bits bound fault → IsWordStageRefusal c bound fault
stage_refused c bits bound OutOfMemory none is = tt
stage_refused c bits bound (TooManyTerms stage n) none is = is.is none
