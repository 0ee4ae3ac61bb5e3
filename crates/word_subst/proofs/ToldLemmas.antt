-- The pairs of a term's bits of the word: where nobody asks for them, they are there all the same.
use Rattle.std.proofs.Common.{◌≡◌, ◌≢◌, ap, sym, refl, subst, ℕ, zero, suc, ◌<◌, ◌≤◌, ◌+◌, ◌-◌, ◌*◌, List, [], ◌∷◌, length, take, drop, get_or, slice_index, Option, Some, None, arith}
use Rattle.std.specs.Prelude.{slice_get}
use Rattle.lists.specs.laws.ReadLaws.{get_below}
use Rattle.poly_mixed.specs.Monomial.{Monomial, text_cmp}
use Rattle.poly_mixed.specs.Polynomial.{Terms, IsTerm}
use Rattle.poly_mixed.specs.Sum.{plus}
use Rattle.poly_mixed.specs.Steps.{Step, Tells}
use Rattle.poly_mixed.specs.declared.steps.Generator.TheVariants.{Bit}
use Rattle.poly_mixed.proofs.FieldLaws.{IsField}
use Rattle.stage_model.specs.WordStage.{word_bits}
use Rattle.stage_model.specs.PlainWord.{IsProductOf}
use Rattle.word_subst.specs.Univariate.{Powers, IsMultiple}
use Rattle.word_subst.specs.Multiple.{multiplied}
use Rattle.word_subst.specs.Multiplier.{IsWithBits}
use Rattle.word_subst.specs.Prefix.{Products, IsBitProduct, AreProducts}
use Rattle.word_subst.specs.Spread.{Groups, AddsGroup, spread}
use Rattle.word_subst.specs.Rest.{rest_of, AddsTerm}
use Rattle.word_subst.specs.ReadSteps.{TellsFirst}
use Rattle.word_subst.proofs.Telling.{TellsMultiplier}
use Rattle.word_subst.proofs.OneTermLemmas.{none_told, one_told, later_is}
use Rattle.word_subst.proofs.TermPartLemmas.{product_is, adds_term, whole_product, bits_more}

pub got_index : (xs : List ℕ) (j : ℕ) → j < length xs → slice_get xs j ≡ Some (get_or xs j 0)
got_index [] j less = absurd (omega arith)
got_index (x ∷ xs) zero less = refl
got_index (x ∷ xs) (suc j) less = got_index xs j (omega arith)

module _ (k : ℕ) (mul : ℕ → ℕ → ℕ) (elements : List ℕ) (w bound : ℕ) (ps : Products) (own : List ℕ) (are : AreProducts k mul elements w bound ps) (same : own ≡ ps.ranks) where
  -- there is a product with all these bits
  pub has_last : length own < length ps.products
  has_last = omega (arith, ap length same, are.long)

  -- and one with the first j of them
  pub has_earlier : (j : ℕ) → j < length own → j < length ps.products
  has_earlier j less = omega (arith, ap length same, are.long, less)

module _ {k : ℕ} {mul : ℕ → ℕ → ℕ} (f : IsField k mul) (elements : List ℕ) (w : ℕ) (inside : w < 8) (t : Monomial × ℕ) (is : IsTerm k t) (some : t.1 ≢ 0) (bound : ℕ) (ps : Products) (are : AreProducts k mul elements w bound ps) (ranks : ps.ranks ≡ word_bits k w t) (start : ps.start ≡ slice_index t.0.exponents w) where
  -- the product with the first j bits
  pub bit_product : (j : ℕ) (us : Powers) → slice_get ps.products j ≡ Some us → IsBitProduct k mul elements w (slice_index t.0.exponents w) (take j (word_bits k w t)) us
  bit_product j us got =
      let P : ℕ → Type 0 = λ s. IsBitProduct k mul elements w s (take j (word_bits k w t)) us in
      let Q : List ℕ → Type 0 = λ rs. IsBitProduct k mul elements w ps.start (take j rs) us in
      subst P start (subst Q ranks (are.each j us got))

  pub has_product : (j : ℕ) → j ≤ length (word_bits k w t) → (us : Powers) × (slice_get ps.products j ≡ Some us)
  has_product j most = get_below ps.products j (omega (arith, most, ap length ranks, are.long))

  quiet_one : (j : ℕ) → j < length (word_bits k w t) → TellsFirst k mul elements w t j None None → TellsFirst k mul elements w t (j + 1) None None
  quiet_one j less so_far =
      let found = has_product j (omega (arith, less)) in
      let at = get_below (word_bits k w t) j less in
      let one = bit_product j found.0 found.1 in
      let whole = multiplied k mul (0, t.1) found.0 in
      let more = whole_product f elements w inside t is some found.0 one.univariate in
      let product = plus text_cmp [] (spread w (rest_of k w t.0) whole) in
      let tells : TellsMultiplier k mul product (drop (suc j) (word_bits k w t)) (Bit w (at.0 - k * w)) None None = record { multiplier = _; is = bits_more f elements w inside t is whole (drop (suc j) (word_bits k w t)) more.0.univariate; told = tt } in
      one_told k w t mul elements bound j at.0 (at.0 - k * w) product (drop (suc j) (word_bits k w t)) None None None is at.1 refl refl (product_is f elements w inside t is j found.0 whole one more.0) so_far tells

  pub quiet : (n : ℕ) → n ≤ length (word_bits k w t) → TellsFirst k mul elements w t n None None
  quiet zero most = none_told k w t mul elements bound None
  quiet (suc n) most =
      let up : n + 1 ≡ suc n = omega arith in
      let P : ℕ → Type 0 = λ m. TellsFirst k mul elements w t m None None in
      subst P up (quiet_one n (omega arith) (quiet n (omega arith)))

  pub all_quiet : (old : Option (List Step)) → old ≡ None → TellsFirst k mul elements w t (length (word_bits k w t)) old old
  all_quiet old none =
      let P : Option (List Step) → Type 0 = λ o. TellsFirst k mul elements w t (length (word_bits k w t)) o o in
      subst P (sym none) (quiet (length (word_bits k w t)) (omega arith))

  -- the polynomial that the code makes of a product
  pub made_product : (j : ℕ) (us part : Powers) (rest : Monomial) (ts : Terms) → slice_get ps.products j ≡ Some us → rest ≡ rest_of k w t.0 → IsMultiple k mul (0, t.1) us part → ts ≡ plus text_cmp [] (spread w rest part) → IsProductOf k mul elements w t j ts
  made_product j us part rest ts got rest_is multiple made =
      let P : Terms → Type 0 = IsProductOf k mul elements w t j in
      let Q : Monomial → Type 0 = λ m. IsProductOf k mul elements w t j (plus text_cmp [] (spread w m part)) in
      subst P (sym made) (subst Q (sym rest_is) (product_is f elements w inside t is j us part (bit_product j us got) multiple))

  -- the sum with the term, as the code makes it
  pub read_term : (j : ℕ) (us part : Powers) (rest : Monomial) (old new : Groups) → j ≡ length (word_bits k w t) → slice_get ps.products j ≡ Some us → IsMultiple k mul (0, t.1) us part → rest ≡ rest_of k w t.0 → AddsGroup k mul w rest part old new → AddsTerm k mul elements w t old new
  read_term j us part rest old new last got multiple rest_is adds =
      let P : ℕ → Type 0 = λ i. IsBitProduct k mul elements w (slice_index t.0.exponents w) (take i (word_bits k w t)) us in
      adds_term f elements w inside t is us part rest old new (subst P last (bit_product j us got)) multiple rest_is adds

  -- the pair of one bit more, as the code tells it
  pub next_told : (own : List ℕ) (j place : ℕ) (us part : Powers) (rest : Monomial) (ts multiplier : Terms) (old mid new : Option (List Step)) → own ≡ word_bits k w t → j < length own → place ≡ get_or own j 0 - k * w → slice_get ps.products j ≡ Some us
      → rest ≡ rest_of k w t.0 → IsMultiple k mul (0, t.1) us part → ts ≡ plus text_cmp [] (spread w rest part) → IsWithBits k mul ts (take (length own - (j + 1)) (drop (j + 1) own)) multiplier → TellsFirst k mul elements w t j old mid
      → Tells mid new ((Bit w place, multiplier) ∷ []) → TellsFirst k mul elements w t (j + 1) old new
  next_told own j place us part rest ts multiplier old mid new own_are less place_is got rest_is multiple made with_bits so_far told =
      let P : List ℕ → Type 0 = λ xs. slice_get xs j ≡ Some (get_or own j 0) in
      one_told k w t mul elements bound j (get_or own j 0) place ts (take (length own - (j + 1)) (drop (j + 1) own)) old mid new is (subst P own_are (got_index own j less)) place_is (later_is k w t own own j own_are refl)
      (made_product j us part rest ts got rest_is multiple made) so_far (record { multiplier = multiplier; is = with_bits; told = told })
