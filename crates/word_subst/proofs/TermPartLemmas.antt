-- What is found of a term out of the products of its bits of the word.
use Rattle.std.proofs.Common.{◌≡◌, ◌≢◌, ◌∙◌, ap, sym, refl, subst, ℕ, zero, suc, ◌<◌, ◌-◌, ◌*◌, ◌==◌, ◌&&◌, Bool, true, false, cond, not, List, [], ◌∷◌, ◌++◌, length, take, slice_index, bit_xor, arith}
use Rattle.std.proofs.Math.ListN.{set, length-set}
use Rattle.std.specs.Int.{bit_at}
use Rattle.std.specs.List.{AllByRecursion, filter, list_all}
use Rattle.std.proofs.lemmas.List.Folds.{list_all-append}
use Rattle.std.proofs.Math.Seq.{take-length}
use Rattle.lists.specs.laws.BoolLaws.{not_true, cond_and}
use Rattle.gf_field.specs.Power.{power}
use Rattle.poly_mixed.specs.Monomial.{Monomial, text_cmp}
use Rattle.poly_mixed.specs.Polynomial.{Point, IsElement, IsTerm, powers, value}
use Rattle.poly_mixed.specs.Product.{union}
use Rattle.poly_mixed.specs.Sum.{plus}
use Rattle.poly_mixed.specs.declared.stage.ReduceFault.{ReduceFault}
use Rattle.poly_mixed.specs.declared.stage.ReduceFault.TheVariants.{TooManyTerms, OutOfMemory}
use Rattle.poly_mixed.specs.declared.stage.Stage.TheVariants.{Cut, WordProduct, WordSum, SpecProduct, SpecSum, InstanceProduct, InstanceSum}
use Rattle.poly_mixed.proofs.FieldLaws.{IsField}
use Rattle.poly_mixed.proofs.CofactorLemmas.{rising-filter}
use Rattle.poly_mixed.proofs.ProductLemmas.{all-union, rising-union}
use Rattle.poly_mixed.proofs.ValueLemmas.{power_element, powers_element, one_element, zero_element, product_zero, product_by_zero}
use Rattle.stage_model.specs.WordStage.{is_of_word, word_bits, with_word}
use Rattle.stage_model.specs.PlainWord.{IsProductOf}
use Rattle.stage_model.proofs.WordPolyLemmas.{whole_term}
use Rattle.word_subst.specs.Univariate.{Powers, IsUnivariate, IsMultiple, value_of}
use Rattle.word_subst.specs.Multiple.{multiplied}
use Rattle.word_subst.specs.Multiplier.{IsWithBits}
use Rattle.word_subst.specs.Prefix.{Products, IsBitProduct, AreProducts, IsProductWithin, IsProductRefusal}
use Rattle.word_subst.specs.Spread.{Groups, IsRest, AddsGroup, spread, all_terms}
use Rattle.word_subst.specs.Rest.{rest_of, AddsTerm}
use Rattle.word_subst.specs.Read.{HasWithin, product_at, IsTermWithin}
use Rattle.word_subst.specs.ReadRefusal.{IsTermRefusal}
use Rattle.word_subst.proofs.MultipleLemmas.{scaled_is}
use Rattle.word_subst.proofs.PrefixLemmas.{product_before}
use Rattle.word_subst.proofs.SpreadLemmas.{element_at, at_set, set_all, put_back, powers_set, word_element, spread_value, spread_terms, spread_nonzero, spread_length, gathered_reduced, gathered_value}

-- ---- the bits of a term

same_tests : (p q : ℕ → Bool) (xs : List ℕ) → AllByRecursion (λ x. p x ≡ q x) xs → list_all p xs ≡ list_all q xs
same_tests p q [] all = refl
same_tests p q (x ∷ xs) all = λ i. all.0 i && same_tests p q xs all.1 i

filter_all : (P : ℕ → Type 0) (f : ℕ → Bool) → ((x : ℕ) → f x ≡ true → P x) → (xs : List ℕ) → AllByRecursion P (filter f xs)
filter_all P f holds [] = tt
filter_all P f holds (x ∷ xs) = elim (f x) as (λ b. f x ≡ b → AllByRecursion P (cond b (x ∷ filter f xs) (filter f xs))) [
  | true ↦ λ e. (holds x e, filter_all P f holds xs)
  | false ↦ λ e. filter_all P f holds xs
] refl

take_all_of : (P : ℕ → Type 0) (n : ℕ) (xs : List ℕ) → AllByRecursion P xs → AllByRecursion P (take n xs)
take_all_of P zero xs all = tt
take_all_of P (suc n) [] all = tt
take_all_of P (suc n) (x ∷ xs) all = (all.0, take_all_of P n xs all.1)

pub own_are : (k w : ℕ) (xs : List ℕ) → AllByRecursion (λ r. is_of_word k w r ≡ true) (filter (is_of_word k w) xs)
own_are k w xs = filter_all (λ r. is_of_word k w r ≡ true) (is_of_word k w) (λ x e. e) xs

-- the ranks that the code finds are a term's bits of the word
pub own_found : (k m w : ℕ) (t : Monomial × ℕ) (mono : Monomial) (bits items own : List ℕ) → own ≡ items → items ≡ filter (is_of_word m w) bits → bits ≡ mono.bits → mono ≡ t.0 → m ≡ k → own ≡ word_bits k w t
own_found k m w t mono bits items own same made bits_are mono_is m_is = same ∙ (made ∙ (λ i. filter (is_of_word (m_is i) w) ((bits_are ∙ ap (λ (n : Monomial). n.bits) mono_is) i)))

module _ {k : ℕ} {mul : ℕ → ℕ → ℕ} (f : IsField k mul) (elements : List ℕ) (w : ℕ) (inside : w < 8) (t : Monomial × ℕ) (is : IsTerm k t) where
  abbrev own : List ℕ
  own = word_bits k w t

  abbrev others : List ℕ
  others = filter (λ r. not (is_of_word k w r)) t.0.bits

  abbrev start : ℕ
  start = slice_index t.0.exponents w

  low : w < length t.0.exponents
  low = omega (arith, inside, is.monomial.words)

  pub is_rest : IsRest w k (rest_of k w t.0)
  is_rest = record {
    monomial = record {
      words = length-set t.0.exponents w 0 ∙ is.monomial.words;
      exponents = set_all (IsElement k) t.0.exponents w 0 is.monomial.exponents (zero_element f);
      rising = rising-filter (λ r. not (is_of_word k w r)) t.0.bits is.monomial.rising;
    };
    none = at_set t.0.exponents w 0 low;
  }

  pub start_element : IsElement k start
  start_element = element_at k t.0.exponents w is.monomial.exponents low

  own_tests : (d j : ℕ) (p : Point) → list_all (with_word k w d p).is_one (take j own) ≡ list_all (λ r. bit_at d (r - k * w) == 1) (take j own)
  own_tests d j p = same_tests (with_word k w d p).is_one (λ r. bit_at d (r - k * w) == 1) (take j own)
      (take_all_of (λ x. (with_word k w d p).is_one x ≡ (bit_at d (x - k * w) == 1)) j own
      (filter_all (λ x. (with_word k w d p).is_one x ≡ (bit_at d (x - k * w) == 1)) (is_of_word k w) (λ x e. ap (λ b. cond b (bit_at d (x - k * w) == 1) (p.is_one x)) e) t.0.bits))

  other_tests : (d : ℕ) (p : Point) → list_all (with_word k w d p).is_one others ≡ list_all p.is_one others
  other_tests d p = same_tests (with_word k w d p).is_one p.is_one others
      (filter_all (λ x. (with_word k w d p).is_one x ≡ p.is_one x) (λ r. not (is_of_word k w r)) (λ x e. ap (λ b. cond b (bit_at d (x - k * w) == 1) (p.is_one x)) (not_true (is_of_word k w x) e)) t.0.bits)

  gathered : (a b : Bool) (c s q : ℕ) → IsElement k c → IsElement k s → IsElement k q → cond a (mul (mul (mul c 1) (cond b s 0)) q) 0 ≡ cond (b && a) (mul c (mul s q)) 0
  gathered true true c s q hc hs hq = ap (λ n. mul (mul n s) q) (f.comm c 1 hc (one_element f) ∙ f.neutral c hc) ∙ f.assoc c s q hc hs hq
  gathered true false c s q hc hs hq = ap (λ n. mul n q) (product_by_zero f (mul c 1) (f.closed c 1 hc (one_element f))) ∙ product_zero f q hq
  gathered false true c s q hc hs hq = refl
  gathered false false c s q hc hs hq = refl

  -- the polynomial of a product stage
  pub product_is : (j : ℕ) (us scaled : Powers) → IsBitProduct k mul elements w start (take j own) us → IsMultiple k mul (0, t.1) us scaled → IsProductOf k mul elements w t j (plus text_cmp [] (spread w (rest_of k w t.0) scaled))
  unfolding power
  product_is j us scaled product multiple = record {
    reduced = gathered_reduced f (spread w (rest_of k w t.0) scaled) (spread_terms w k inside (rest_of k w t.0) scaled is_rest multiple.univariate.powers) (spread_nonzero w k inside (rest_of k w t.0) scaled multiple.univariate.powers);
    values = λ p d at bits.
        let x = slice_index p.words w in
        let hx = word_element f p w at inside in
        let s = power mul x start in
        let q = powers mul (set t.0.exponents w 0) p.words in
        let hs = power_element f x start hx in
        let hq = powers_element f (set t.0.exponents w 0) p.words at.elements in
        let a = list_all p.is_one others in
        let b = list_all (λ r. bit_at d (r - k * w) == 1) (take j own) in
        let whole : powers mul t.0.exponents p.words ≡ mul s q =
        ap (λ es. powers mul es p.words) (sym (put_back t.0.exponents w low))
        ∙ powers_set f (set t.0.exponents w 0) p.words w start (omega (arith, low, length-set t.0.exponents w 0)) (is_rest.monomial.words ∙ sym at.words) is_rest.none at.elements in
        let tests : list_all (with_word k w d p).is_one (take j own ++ others) ≡ (b && a) = list_all-append (with_word k w d p).is_one (take j own) others ∙ (λ i. own_tests d j p i && other_tests d p i) in
        gathered_value f p at (spread w (rest_of k w t.0) scaled) (spread_terms w k inside (rest_of k w t.0) scaled is_rest multiple.univariate.powers)
        ∙ (spread_value f w inside p (rest_of k w t.0) scaled at is_rest multiple.univariate.powers
        ∙ (ap (λ n. cond a (mul n q) 0) (multiple.values x hx ∙ ap (mul (mul t.1 1)) (product.values x d hx bits))
        ∙ (gathered a b t.1 s q is.element hs hq
        ∙ (λ i. cond (sym tests i) (mul t.1 (sym whole i)) 0))));
  }

  -- the sum with the term
  pub adds_term : (us scaled : Powers) (rest : Monomial) (old new : Groups) → IsBitProduct k mul elements w start (take (length own) own) us → IsMultiple k mul (0, t.1) us scaled → rest ≡ rest_of k w t.0 → AddsGroup k mul w rest scaled old new → AddsTerm k mul elements w t old new
  adds_term us scaled rest old new product multiple rest_is adds =
      let ts = spread w (rest_of k w t.0) scaled in
      let P : Monomial → Type 0 = λ m. AddsGroup k mul w m scaled old new in
      let added = subst P rest_is adds in
      record {
        part = plus text_cmp [] ts;
        is = whole_term k mul elements w t (plus text_cmp [] ts) (product_is (length own) us scaled product multiple);
        values = λ p at. added p at ∙ ap (bit_xor (value mul p (all_terms w old))) (sym (gathered_value f p at ts (spread_terms w k inside (rest_of k w t.0) scaled is_rest multiple.univariate.powers)));
      }

  module _ (some : t.1 ≢ 0) where
    -- the product times the coefficient
    pub whole_product : (us : Powers) → IsUnivariate k us → IsMultiple k mul (0, t.1) us (multiplied k mul (0, t.1) us) × (length (multiplied k mul (0, t.1) us) ≡ length us)
    whole_product us one = scaled_is f t.1 us us (multiplied k mul (0, t.1) us) (record { exponent = zero_element f; element = is.element; some = some }) one refl refl

    pub has_within : (bound j : ℕ) → IsProductWithin k mul elements w start own bound j → HasWithin k mul elements w (product_at k mul w t j) bound
    has_within bound j has =
        let more = whole_product has.powers has.is.univariate in
        record {
          terms = plus text_cmp [] (spread w (rest_of k w t.0) (multiplied k mul (0, t.1) has.powers));
          is = product_is j has.powers (multiplied k mul (0, t.1) has.powers) has.is more.0;
          within = omega (arith, has.within, more.1, spread_length w k inside (rest_of k w t.0) (multiplied k mul (0, t.1) has.powers) is_rest more.0.univariate);
        }

    pub term_within : (bound : ℕ) (ps : Products) → AreProducts k mul elements w bound ps → ps.ranks ≡ own → ps.start ≡ start → IsTermWithin k mul elements w t bound
    term_within bound ps are ranks_are start_is j some_bit most =
        let P : ℕ → Type 0 = λ s. IsProductWithin k mul elements w s own bound j in
        has_within bound j (subst P start_is (product_before f elements w bound ps own (length own) j are (ranks_are ∙ sym (take-length own)) (omega arith) some_bit most))

    pub term_refusal : (bound number : ℕ) (fault : ReduceFault) → IsProductRefusal k mul elements w start own number bound fault → IsTermRefusal k mul elements w t number bound fault
    term_refusal bound number OutOfMemory over = tt
    term_refusal bound number (TooManyTerms (WordProduct v r j) n) over =
        let first = over.2 in
        let more = whole_product first.powers first.is.univariate in (
          over.0,
          over.1,
          record {
            some = first.some;
            bits = first.bits;
            over = record {
              terms = plus text_cmp [] (spread w (rest_of k w t.0) (multiplied k mul (0, t.1) first.powers));
              is = product_is j first.powers (multiplied k mul (0, t.1) first.powers) first.is more.0;
              size = spread_length w k inside (rest_of k w t.0) (multiplied k mul (0, t.1) first.powers) is_rest more.0.univariate ∙ (more.1 ∙ first.size);
              over = first.over;
            };
            before = λ i least less. has_within bound i (first.before i least less);
          },
        )
    term_refusal bound number (TooManyTerms (Cut c) n) over = absurd over
    term_refusal bound number (TooManyTerms (WordSum v s) n) over = absurd over
    term_refusal bound number (TooManyTerms (SpecProduct s j) n) over = absurd over
    term_refusal bound number (TooManyTerms (SpecSum s) n) over = absurd over
    term_refusal bound number (TooManyTerms (InstanceProduct i s j) n) over = absurd over
    term_refusal bound number (TooManyTerms (InstanceSum i s) n) over = absurd over

  -- ---- a multiplier that nobody asks for

  -- the product with more bits
  pub bits_more : (us : Powers) (bits : List ℕ) → IsUnivariate k us → IsWithBits k mul (plus text_cmp [] (spread w (rest_of k w t.0) us)) bits (plus text_cmp [] (spread w (record { exponents = set t.0.exponents w 0; bits = union others bits }) us))
  bits_more us bits one =
      let wide : Monomial = record { exponents = set t.0.exponents w 0; bits = union others bits } in
      let wide_rest : IsRest w k wide = record { monomial = record { words = is_rest.monomial.words; exponents = is_rest.monomial.exponents; rising = rising-union others bits is_rest.monomial.rising }; none = is_rest.none } in
      record {
        reduced = gathered_reduced f (spread w wide us) (spread_terms w k inside wide us wide_rest one.powers) (spread_nonzero w k inside wide us one.powers);
        values = λ p at.
            let v = mul (value_of mul (slice_index p.words w) us) (powers mul (set t.0.exponents w 0) p.words) in
            gathered_value f p at (spread w wide us) (spread_terms w k inside wide us wide_rest one.powers)
            ∙ (spread_value f w inside p wide us at wide_rest one.powers
            ∙ (ap (λ b. cond b v 0) (all-union p.is_one others bits)
            ∙ (cond_and (list_all p.is_one others) (list_all p.is_one bits) v
            ∙ ap (λ n. cond (list_all p.is_one bits) n 0) (sym (gathered_value f p at (spread w (rest_of k w t.0) us) (spread_terms w k inside (rest_of k w t.0) us is_rest one.powers) ∙ spread_value f w inside p (rest_of k w t.0) us at is_rest one.powers)))));
      }
