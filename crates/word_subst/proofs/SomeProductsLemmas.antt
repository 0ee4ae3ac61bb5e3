-- Each term has its products, and where no polynomial in the word has more powers than the bound none of them is over it.
use Rattle.std.proofs.Common.{◌≡◌, ◌≢◌, ◌∙◌, ap, sym, refl, ℕ, ◌<◌, ◌≤◌, ◌+◌, ◌-◌, ◌*◌, ◌^◌, true, List, [], ◌∷◌, ◌++◌, length, append-nil, slice_index, None, arith}
use Rattle.std.specs.List.{AllByRecursion}
use Rattle.std.proofs.lemmas.List.{append_assoc}
use Rattle.lists.specs.laws.ReadLaws.{get_below}
use Rattle.poly_mixed.specs.Monomial.{Monomial}
use Rattle.poly_mixed.specs.Polynomial.{Terms, IsTerm}
use Rattle.poly_mixed.proofs.FieldLaws.{IsField}
use Rattle.stage_model.specs.WordStage.{is_of_word, word_bits}
use Rattle.stage_model.proofs.WordPolyLemmas.{own_range}
use Rattle.word_subst.specs.Univariate.{Powers}
use Rattle.word_subst.specs.Forms.{AreForms}
use Rattle.word_subst.specs.Prefix.{Products, AreProducts}
use Rattle.word_subst.specs.Read.{IsTermWithin}
use Rattle.word_subst.specs.ReadSteps.{TellsTerms}
use Rattle.word_subst.proofs.GatheredPowersLemmas.{few_powers, some_product}
use Rattle.word_subst.proofs.PrefixLemmas.{one_bit_more, first_products, last_product, extended}
use Rattle.word_subst.proofs.TermPartLemmas.{own_are, start_element, term_within}
use Rattle.word_subst.proofs.ToldLemmas.{all_quiet}

module _ {k : ℕ} {mul : ℕ → ℕ → ℕ} (f : IsField k mul) (elements : List ℕ) (w : ℕ) (forms : List Powers) (are_forms : AreForms k mul elements forms) (bound : ℕ) (wide : 2 ^ k ≤ bound) where
  one_more : (rank : ℕ) (old : Products) → is_of_word k w rank ≡ true → AreProducts k mul elements w bound old → (new : Products) × AreProducts k mul elements w bound new × (new.ranks ≡ old.ranks ++ rank ∷ []) × (new.start ≡ old.start)
  one_more rank old own are =
      let range = own_range k w rank own in
      let at = get_below forms (rank - k * w) (less (k * w) range) in
      let form = are_forms.each (rank - k * w) at.0 at.1 in
      let last = get_below old.products (length old.ranks) (omega (arith, are.long)) in
      let is = last_product f elements w bound old last.0 are last.1 in
      let next = some_product f last.0 at.0 is.univariate form.univariate in
      let more = one_bit_more f elements w old.start rank old.ranks last.0 at.0 next.0 is form next.1 in
      let new : Products = record { start = old.start; ranks = old.ranks ++ rank ∷ []; products = old.products ++ next.0 ∷ [] } in
      let few : length next.0 ≤ bound = omega (arith, few_powers k next.0 next.1.univariate, wide) in
      (new, extended f elements w bound old new rank next.0 are more few refl refl refl, refl, refl)
    where
      less : (b : ℕ) → (b ≤ rank) × (rank < b + k) → rank - b < length forms
      less b range = omega (arith, range.0, range.1, are_forms.long)

  more_products : (ranks : List ℕ) (old : Products) → AllByRecursion (λ r. is_of_word k w r ≡ true) ranks → AreProducts k mul elements w bound old
      → (new : Products) × AreProducts k mul elements w bound new × (new.ranks ≡ old.ranks ++ ranks) × (new.start ≡ old.start)
  more_products [] old own are = (old, are, sym (append-nil old.ranks), refl)
  more_products (r ∷ ranks) old own are =
      let one = one_more r old own.0 are in
      let all = more_products ranks one.0 own.1 one.1 in
      (all.0, all.1, all.2 ∙ (ap (λ rs. rs ++ ranks) one.2 ∙ append_assoc old.ranks (r ∷ []) ranks), all.3 ∙ one.3)

  -- products of a term
  pub record AreTermProducts (t : Monomial × ℕ) (ps : Products) : Type 0 where
    pub are : AreProducts k mul elements w bound ps
    pub ranks : ps.ranks ≡ word_bits k w t
    pub start : ps.start ≡ slice_index t.0.exponents w

  module _ (inside : w < 8) where
    pub some_products : (t : Monomial × ℕ) → IsTerm k t → (ps : Products) × AreTermProducts t ps
    some_products t is =
        let start = slice_index t.0.exponents w in
        let none : Products = record { start = start; ranks = []; products = ((start, 1) ∷ []) ∷ [] } in
        let first = first_products f elements w bound start ((start, 1) ∷ []) (((start, 1) ∷ []) ∷ []) (start_element f elements w inside t is) refl refl in
        let all = more_products (word_bits k w t) none (own_are k w t.0.bits) first in
        (all.0, record { are = all.1; ranks = all.2; start = all.3 })

    pub some_within : (t : Monomial × ℕ) → IsTerm k t → t.1 ≢ 0 → IsTermWithin k mul elements w t bound
    some_within t is some =
        let ps = some_products t is in
        term_within f elements w inside t is some bound ps.0 ps.1.are ps.1.ranks ps.1.start

    -- nobody asks for their pairs
    pub terms_quiet : (ts : Terms) → AllByRecursion (IsTerm k) ts → AllByRecursion (λ t. t.1 ≢ 0) ts → TellsTerms k mul elements w ts None None
    terms_quiet [] all some = record { steps = []; are = refl; told = tt }
    terms_quiet (t ∷ ts) all some =
        let ps = some_products t all.0 in
        let first = all_quiet f elements w inside t all.0 some.0 bound ps.0 ps.1.are ps.1.ranks ps.1.start None refl in
        let rest = terms_quiet ts all.1 some.1 in
        record { steps = first.steps ++ rest.steps; are = (first.steps, rest.steps, first.are, rest.are, refl); told = tt }
