-- What is found of one word's bits are polynomials of the circuit's stages and pairs.
use Rattle.std.proofs.Common.{◌≡◌, sym, refl, subst, ℕ, suc, ◌<◌, ◌≤◌, ◌+◌, ◌*◌, List, [], ◌∷◌, length, Some, arith}
use Rattle.std.specs.Prelude.{slice_get, slice_index}
use Rattle.std.proofs.lemmas.Option.{slice_get_within, get_or_from_slice_get}
use Rattle.gf_basis.specs.Basis.{AreBits}
use Rattle.circuit_model.specs.Word.{Word}
use Rattle.circuit_model.specs.Circuit.{Circuit}
use Rattle.circuit_model.specs.WellFormed.{IsWellFormed}
use Rattle.poly_mixed.specs.Monomial.{Monomial}
use Rattle.poly_mixed.specs.Polynomial.{Terms, Point}
use Rattle.poly_mixed.specs.Steps.{Step}
use Rattle.stage_model.specs.Mix.{IsMix}
use Rattle.stage_model.specs.Stage.{IsOfStage, HasSize, IsWithin}
use Rattle.stage_model.specs.WordStage.{IsRead, IsTermOf, IsTermProduct, IsTermSum}
use Rattle.stage_model.specs.WordSteps.{IsMultiplier, IsStepOf, AreStepsOfTerms, AreStepsOfWord}
use Rattle.stage_model.specs.WordListing.{HasProduct, HasSum}
use Rattle.stage_model.specs.PlainWord.{IsReading, IsSumOf}
use Rattle.stage_model.proofs.WordStageLemmas.{some_read, one_terms}
use Rattle.stage_model.proofs.NextMixLemmas.{all_terms}
use Rattle.word_subst.specs.Read.{product_at, sum_at, multiplier_at, HasWithin, HasOver, AreTermsWithin}
use Rattle.word_subst.specs.ReadSteps.{IsReadStep, AreReadSteps}

module _ (c : Circuit) (well : IsWellFormed c) (w : ℕ) (word : Word) (at_word : slice_get c.words w ≡ Some word) (elements : List ℕ) (basis : word.basis ≡ elements) (terms : Terms) (before : IsOfStage c.k c.product (IsMix c w) terms) where
  -- the bits of the point's element are those that are read
  read_bits : (p : Point) (d : ℕ) → IsRead c w p d → AreBits elements (slice_index p.words w) d
  read_bits p d read =
      let here : slice_get c.words w ≡ Some word = at_word in
      let here' : slice_get c.words w ≡ Some read.word = read.at_word in
      let same : read.word ≡ word = cc in
      let P : Word → Type 0 = λ v. AreBits v.basis read.element d in
      let Q : List ℕ → Type 0 = λ es. AreBits es read.element d in
      let R : ℕ → Type 0 = λ x. AreBits elements x d in
      subst R (sym (get_or_from_slice_get p.words w read.element 0 read.at_point)) (subst Q basis (subst P same read.bits))

  inside : w < length c.words
  inside = slice_get_within c.words w word at_word

  pub lift_product : (place s j : ℕ) (t : Monomial × ℕ) (ts : Terms) → place + 1 ≡ s → slice_get terms place ≡ Some t → IsReading c.k c.product elements w (product_at c.k c.product w t j) ts → IsOfStage c.k c.product (IsTermProduct c w s j) ts
  lift_product place s j t ts number at is = record {
    reduced = is.reduced;
    values = λ p at_p.
        let read = some_read c well w p at_p inside in
        record { term = t; is_term = record { terms = terms; before = before; place = place; number = number; at = at }; d = read.0; read = read.1; element = sym (is.values p read.0 at_p (read_bits p read.0 read.1)) };
  }

  pub lift_sum : (s : ℕ) (ts : Terms) → IsReading c.k c.product elements w (sum_at c.k c.product w terms s) ts → IsOfStage c.k c.product (IsTermSum c w s) ts
  lift_sum s ts is = record {
    reduced = is.reduced;
    values = λ p at_p.
        let read = some_read c well w p at_p inside in
        record { terms = terms; before = before; d = read.0; read = read.1; element = sym (is.values p read.0 at_p (read_bits p read.0 read.1)) };
  }

  lift_multiplier : (t : Monomial × ℕ) (rank : ℕ) (ts : Terms) → IsReading c.k c.product elements w (multiplier_at c.k c.product w t rank) ts → IsOfStage c.k c.product (IsMultiplier c w t rank) ts
  lift_multiplier t rank ts is = record {
    reduced = is.reduced;
    values = λ p at_p.
        let read = some_read c well w p at_p inside in
        record { d = read.0; read = read.1; element = sym (is.values p read.0 at_p (read_bits p read.0 read.1)) };
  }

  lift_step : (t : Monomial × ℕ) (j : ℕ) (step : Step) → IsReadStep c.k c.product elements w t j step → IsStepOf c w t j step
  lift_step t j step is = record { place = is.place; at = is.at; generator = is.generator; multiplier = lift_multiplier t (c.k * w + is.place) step.1 is.multiplier }

  lift_steps : (ts : Terms) (steps : List Step) → AreReadSteps c.k c.product elements w ts steps → AreStepsOfTerms c w ts steps
  lift_steps [] steps are = are
  lift_steps (t ∷ ts) steps are = (are.0, are.1, record { long = are.2.long; each = λ j step got. lift_step t j step (are.2.each j step got) }, lift_steps ts are.1 are.3, are.4)

  pub word_steps : (steps : List Step) → AreReadSteps c.k c.product elements w terms steps → AreStepsOfWord c w steps
  word_steps steps are = record { terms = terms; before = before; are = lift_steps terms steps are }

  pub next_mix : (ts : Terms) → IsSumOf c.k c.product elements w terms (length terms) ts → IsOfStage c.k c.product (IsMix c (suc w)) ts
  next_mix ts is = record { reduced = is.reduced; values = λ p at_p. (all_terms c well w terms p _ at_p inside before).0 ((lift_sum (length terms) ts is).values p at_p) }

  -- a term of the definition is one of these
  term_here : (s : ℕ) (t : Monomial × ℕ) (is : IsTermOf c w s t) → slice_get terms is.place ≡ Some t
  term_here s t is =
      let same = one_terms c well w is.terms terms is.before before in
      let P : Terms → Type 0 = λ us. slice_get us is.place ≡ Some t in
      subst P same is.at

  within_of : (stage : Point → ℕ → Type 0) (h : ℕ → Point → ℕ) (bound : ℕ) → ((ts : Terms) → IsReading c.k c.product elements w h ts → IsOfStage c.k c.product stage ts) → HasWithin c.k c.product elements w h bound → IsWithin c.k c.product stage bound
  within_of stage h bound lift has = record { size = length has.terms; has = record { terms = has.terms; is = lift has.terms has.is; size = refl }; within = has.within }

  pub size_of : (stage : Point → ℕ → Type 0) (h : ℕ → Point → ℕ) (bound n : ℕ) → ((ts : Terms) → IsReading c.k c.product elements w h ts → IsOfStage c.k c.product stage ts) → HasOver c.k c.product elements w h bound n → HasSize c.k c.product stage n
  size_of stage h bound n lift has = record { terms = has.terms; is = lift has.terms has.is; size = has.size }

  pub product_within : (bound place s j : ℕ) (t : Monomial × ℕ) → place + 1 ≡ s → slice_get terms place ≡ Some t → HasWithin c.k c.product elements w (product_at c.k c.product w t j) bound → IsWithin c.k c.product (IsTermProduct c w s j) bound
  product_within bound place s j t number at has = within_of (IsTermProduct c w s j) (product_at c.k c.product w t j) bound (λ ts is. lift_product place s j t ts number at is) has

  pub sum_within : (bound s : ℕ) → HasWithin c.k c.product elements w (sum_at c.k c.product w terms s) bound → IsWithin c.k c.product (IsTermSum c w s) bound
  sum_within bound s has = within_of (IsTermSum c w s) (sum_at c.k c.product w terms s) bound (λ ts is. lift_sum s ts is) has

  -- the stages of the first n terms
  pub products_to : (bound n s j : ℕ) → AreTermsWithin c.k c.product elements w terms n bound → s ≤ n → HasProduct c w s j → IsWithin c.k c.product (IsTermProduct c w s j) bound
  products_to bound n s j all most has =
      let at = term_here s has.term has.is_term in
      product_within bound has.is_term.place s j has.term has.is_term.number at (all.products has.is_term.place has.term (less has.is_term.place has.is_term.number) at j has.some has.bits)
    where
      less : (place : ℕ) → place + 1 ≡ s → place < n
      less place number = omega (arith, most, number)

  pub sums_to : (bound n s : ℕ) → AreTermsWithin c.k c.product elements w terms n bound → s ≤ n → HasSum c w s → IsWithin c.k c.product (IsTermSum c w s) bound
  sums_to bound n s all most has = sum_within bound s (all.sums s (some has.is_term.place has.is_term.number) most)
    where
      some : (place : ℕ) → place + 1 ≡ s → 1 ≤ s
      some place number = omega (arith, number)

  -- the number of a term of the definition
  pub number_within : (s : ℕ) (t : Monomial × ℕ) → IsTermOf c w s t → s ≤ length terms
  number_within s t is = omega (arith, is.number, slice_get_within terms is.place t (term_here s t is))
