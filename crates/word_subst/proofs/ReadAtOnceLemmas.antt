-- All terms of one rest at once: their sum, and that no stage is over the bound where 2^k terms are within it.
use Rattle.std.proofs.Common.{◌≡◌, ◌≢◌, ◌∙◌, ap, sym, refl, subst, ℕ, zero, suc, ◌<◌, ◌≤◌, ◌+◌, ◌-◌, ◌*◌, ◌^◌, ◌==◌, ◌&&◌, Bool, true, false, cond, nat_le, nat_lt, List, [], ◌∷◌, ◌++◌, length, take, slice_index, bit_xor, Some, arith}
use Rattle.std.specs.Prelude.{slice_get}
use Rattle.std.specs.Int.{bit_at}
use Rattle.std.specs.List.{AllByRecursion, filter, list_all}
use Rattle.std.specs.Ordering.{nat_cmp}
use Rattle.std.proofs.Math.Seq.{take-length}
use Rattle.lists.specs.laws.ListLaws.{all_append}
use Rattle.gf_basis.specs.Basis.{AreBits}
use Rattle.gf_field.specs.Power.{power}
use Rattle.poly_mixed.specs.Monomial.{Monomial, text_cmp}
use Rattle.poly_mixed.specs.Polynomial.{Terms, Point, IsPoint, IsTerm, IsElement, IsReduced, powers, term_value, value}
use Rattle.poly_mixed.specs.Sum.{xor_sum, plus}
use Rattle.poly_mixed.proofs.FieldLaws.{IsField}
use Rattle.poly_mixed.proofs.ValueLemmas.{power_element, powers_element, one_element, product_zero, product_by_zero}
use Rattle.stage_model.specs.WordStage.{word_bits, with_word}
use Rattle.stage_model.specs.PlainWord.{IsReading, IsTermRead}
use Rattle.stage_model.proofs.WordPolyLemmas.{whole_term}
use Rattle.word_subst.specs.Univariate.{Powers, IsPower, IsUnivariate, IsMultiple, value_of, power_value}
use Rattle.word_subst.specs.Multiple.{multiplied}
use Rattle.word_subst.specs.Forms.{AreForms}
use Rattle.word_subst.specs.Prefix.{IsBitProduct}
use Rattle.word_subst.specs.Spread.{IsRest, spread}
use Rattle.word_subst.specs.Rest.{rest_of}
use Rattle.word_subst.specs.Read.{HasWithin, sum_at}
use Rattle.word_subst.specs.AtOnce.{ranks_from, value_from, IsReadFrom, IsReadAtOnce}
use Rattle.word_subst.proofs.GatheredPowersLemmas.{few_powers, gathered_powers, gathered_at}
use Rattle.word_subst.proofs.MultipleLemmas.{all_take}
use Rattle.word_subst.proofs.SomeProductsLemmas.{some_products, some_within, terms_quiet}
use Rattle.word_subst.proofs.SpreadLemmas.{spread_value, spread_terms, spread_nonzero, spread_length, gathered_reduced, gathered_value, word_element}
use Rattle.word_subst.proofs.TermPartLemmas.{is_rest, product_is, whole_product}
use Rattle.word_subst.proofs.ToldLemmas.{bit_product, has_product}
use Rattle.word_subst.proofs.UnivariateLemmas.{xor_sum-append, value_of_element}
use Rattle.word_subst.proofs.ChoiceLemmas.{sum_where}

module _ {k : ℕ} {mul : ℕ → ℕ → ℕ} (f : IsField k mul) (elements : List ℕ) (w : ℕ) (forms : List Powers) (are_forms : AreForms k mul elements forms) (bound : ℕ) (wide : 2 ^ k ≤ bound) (inside : w < 8) where
  -- a polynomial in the word with the value of one term
  pub record IsOneRead (t : Monomial × ℕ) (us : Powers) : Type 0 where
    pub product : Powers
    pub is : IsBitProduct k mul elements w (slice_index t.0.exponents w) (take (length (word_bits k w t)) (word_bits k w t)) product
    pub multiple : IsMultiple k mul (0, t.1) product us
    pub values : (x d : ℕ) → IsElement k x → AreBits elements x d → value_of mul x us ≡ value_from k mul elements w 0 d x t

  from_first : (t : Monomial × ℕ) → ranks_from k w 0 t.0.bits ≡ word_bits k w t
  from_first t = by (k * w)
    where
      by : (b : ℕ) → filter (λ r. nat_le (b + 0) r && nat_lt r (b + k)) t.0.bits ≡ filter (λ r. nat_le b r && nat_lt r (b + k)) t.0.bits
      by b = let none : b + 0 ≡ b = omega arith in ap (λ n. filter (λ r. nat_le n r && nat_lt r (b + k)) t.0.bits) none

  scaled_value : (b : Bool) (c s : ℕ) → IsElement k c → IsElement k s → mul (mul c 1) (cond b s 0) ≡ cond b (mul c s) 0
  scaled_value true c s hc hs = ap (λ n. mul n s) (f.comm c 1 hc (one_element f) ∙ f.neutral c hc)
  scaled_value false c s hc hs = product_by_zero f (mul c 1) (f.closed c 1 hc (one_element f))

  one_read : (t : Monomial × ℕ) → IsTerm k t → t.1 ≢ 0 → (us : Powers) × IsOneRead t us
  unfolding power
  one_read t is some =
      let own = word_bits k w t in
      let start = slice_index t.0.exponents w in
      let ps = some_products f elements w forms are_forms bound wide inside t is in
      let last = has_product f elements w inside t is some bound ps.0 ps.1.are ps.1.ranks ps.1.start (length own) (omega arith) in
      let product = bit_product f elements w inside t is some bound ps.0 ps.1.are ps.1.ranks ps.1.start (length own) last.0 last.1 in
      let multiple = (whole_product f elements w inside t is some last.0 product.univariate).0 in (
        multiplied k mul (0, t.1) last.0,
        record {
          product = last.0;
          is = product;
          multiple = multiple;
          values = λ x d at bits.
              let s = power mul x start in
              let q : List ℕ → Bool = λ rs. list_all (λ r. bit_at d (r - k * w) == 1) rs in
              multiple.values x at
              ∙ (ap (mul (mul t.1 1)) (product.values x d at bits)
              ∙ (scaled_value (q (take (length own) own)) t.1 s is.element (power_element f x start at)
              ∙ ap (λ rs. cond (q rs) (mul t.1 s) 0) (take-length own ∙ sym (from_first t))));
        },
      )

  -- terms have a polynomial in the word with their values
  some_read : (ts : Terms) → AllByRecursion (IsTerm k) ts → AllByRecursion (λ t. t.1 ≢ 0) ts → (us : Powers) × IsReadFrom k mul elements w 0 ts us
  some_read [] all some = ([], record { univariate = record { rising = tt; powers = tt }; values = λ x d at bits. refl })
  some_read (t ∷ ts) all some =
      let one = one_read t all.0 some.0 in
      let rest = some_read ts all.1 some.1 in
      let both = all_append (IsPower k) one.0 rest.0 one.1.multiple.univariate.powers rest.1.univariate.powers in (
        plus nat_cmp [] (one.0 ++ rest.0),
        record {
          univariate = gathered_powers f (one.0 ++ rest.0) both;
          values = λ x d at bits.
              gathered_at f x (one.0 ++ rest.0) at both
              ∙ (xor_sum-append (power_value mul x) one.0 rest.0 ∙ (λ i. bit_xor (one.1.values x d at bits i) (rest.1.values x d at bits i)));
        },
      )

  -- ---- the value at a point

  module _ (m : Monomial) (rest : IsRest w k m) where
    abbrev times_rest : Point → ℕ → ℕ
    times_rest p v = cond (list_all p.is_one m.bits) (mul v (powers mul m.exponents p.words)) 0

    spread_is : (us : Powers) → IsUnivariate k us → (p : Point) → IsPoint k p → value mul p (plus text_cmp [] (spread w m us)) ≡ times_rest p (value_of mul (slice_index p.words w) us)
    spread_is us one p at = gathered_value f p at (spread w m us) (spread_terms w k inside m us rest one.powers) ∙ spread_value f w inside p m us at rest one.powers

    -- one term
    term_at : (t : Monomial × ℕ) → IsTerm k t → t.1 ≢ 0 → rest_of k w t.0 ≡ m → (p : Point) (d : ℕ) → IsPoint k p → AreBits elements (slice_index p.words w) d
        → times_rest p (value_from k mul elements w 0 d (slice_index p.words w) t) ≡ term_value mul (with_word k w d p) t
    term_at t is some same p d at bits =
        let one = one_read t is some in
        let x = slice_index p.words w in
        let P : Monomial → Type 0 = λ n. IsTermRead k mul elements w t (plus text_cmp [] (spread w n one.0)) in
        let read = subst P same (whole_term k mul elements w t (plus text_cmp [] (spread w (rest_of k w t.0) one.0)) (product_is f elements w inside t is (length (word_bits k w t)) one.1.product one.0 one.1.is one.1.multiple)) in
        ap (times_rest p) (sym (one.1.values x d (word_element f p w at inside) bits))
        ∙ (sym (spread_is one.0 one.1.multiple.univariate p at) ∙ read.values p d at bits)

    nothing_at : (b : Bool) (z : ℕ) → IsElement k z → cond b (mul 0 z) 0 ≡ 0
    nothing_at true z hz = product_zero f z hz
    nothing_at false z hz = refl

    all_at : (ts : Terms) → AllByRecursion (IsTerm k) ts → AllByRecursion (λ t. t.1 ≢ 0) ts → AllByRecursion (λ t. rest_of k w t.0 ≡ m) ts → (p : Point) (d : ℕ) → IsPoint k p → AreBits elements (slice_index p.words w) d
        → times_rest p (xor_sum (value_from k mul elements w 0 d (slice_index p.words w)) ts) ≡ value mul (with_word k w d p) ts
    all_at [] all some same p d at bits = nothing_at (list_all p.is_one m.bits) (powers mul m.exponents p.words) (powers_element f m.exponents p.words at.elements)
    all_at (t ∷ ts) all some same p d at bits =
        let x = slice_index p.words w in
        let hx = word_element f p w at inside in
        let one = one_read t all.0 some.0 in
        let more = some_read ts all.1 some.1 in
        let g = value_from k mul elements w 0 d x in
        let h1 = subst (IsElement k) (one.1.values x d hx bits) (value_of_element f x one.0 hx one.1.multiple.univariate.powers) in
        let h2 = subst (IsElement k) (more.1.values x d hx bits) (value_of_element f x more.0 hx more.1.univariate.powers) in
        sum_where f (list_all p.is_one m.bits) (g t) (xor_sum g ts) (powers mul m.exponents p.words) h1 h2 (powers_element f m.exponents p.words at.elements)
        ∙ (λ i. bit_xor (term_at t all.0 some.0 same.0 p d at bits i) (all_at ts all.1 some.1 same.1 p d at bits i))

    reading : (ts : Terms) (us : Powers) → AllByRecursion (IsTerm k) ts → AllByRecursion (λ t. t.1 ≢ 0) ts → AllByRecursion (λ t. rest_of k w t.0 ≡ m) ts → IsReadFrom k mul elements w 0 ts us
        → IsReading k mul elements w (λ d p. value mul (with_word k w d p) ts) (plus text_cmp [] (spread w m us))
    reading ts us all some same is = record {
      reduced = gathered_reduced f (spread w m us) (spread_terms w k inside m us rest is.univariate.powers) (spread_nonzero w k inside m us is.univariate.powers);
      values = λ p d at bits. spread_is us is.univariate p at ∙ (ap (times_rest p) (is.values (slice_index p.words w) d (word_element f p w at inside) bits) ∙ all_at ts all some same p d at bits);
    }

    few_terms : (us : Powers) → IsUnivariate k us → length (plus text_cmp [] (spread w m us)) ≤ bound
    few_terms us one = omega (arith, spread_length w k inside m us rest one, few_powers k us one, wide)

    module _ (terms : Terms) (all : AllByRecursion (IsTerm k) terms) (some : AllByRecursion (λ t. t.1 ≢ 0) terms) (same : AllByRecursion (λ t. rest_of k w t.0 ≡ m) terms) where
      sum_within : (s : ℕ) → HasWithin k mul elements w (sum_at k mul w terms s) bound
      sum_within s =
          let first = all_take (IsTerm k) s terms all in
          let nonzero = all_take (λ t. t.1 ≢ 0) s terms some in
          let read = some_read (take s terms) first nonzero in
          record {
            terms = plus text_cmp [] (spread w m read.0);
            is = reading (take s terms) read.0 first nonzero (all_take (λ t. rest_of k w t.0 ≡ m) s terms same) read.1;
            within = few_terms read.0 read.1.univariate;
          }

      -- the polynomial of all terms, as the code makes it
      pub read_at_once : (rest_read : Monomial) (us : Powers) (ts : Terms) → rest_read ≡ m → IsReadFrom k mul elements w 0 terms us → ts ≡ plus text_cmp [] (spread w rest_read us) → IsReadAtOnce k mul elements w terms bound ts
      read_at_once rest_read us ts rest_is is made =
          let P : Terms → Type 0 = IsReadAtOnce k mul elements w terms bound in
          let Q : Terms → Type 0 = λ xs. IsReading k mul elements w (λ d p. value mul (with_word k w d p) xs) (plus text_cmp [] (spread w m us)) in
          subst P (sym (made ∙ ap (λ n. plus text_cmp [] (spread w n us)) rest_is)) (record {
            sum = subst Q (sym (take-length terms)) (reading terms us all some same is);
            small = few_terms us is.univariate;
            within = record { products = λ i t less at. some_within f elements w forms are_forms bound wide inside t (term_in terms all i t at) (nonzero_in terms some i t at); sums = λ s least most. sum_within s };
            quiet = terms_quiet f elements w forms are_forms bound wide inside terms all some;
          })
        where
          term_in : (xs : Terms) → AllByRecursion (IsTerm k) xs → (i : ℕ) (t : Monomial × ℕ) → slice_get xs i ≡ Some t → IsTerm k t
          term_in [] each i t got = absurd (cc)
          term_in (x ∷ xs) each zero t got = let here : x ≡ t = cc in subst (IsTerm k) here each.0
          term_in (x ∷ xs) each (suc i) t got = term_in xs each.1 i t got

          nonzero_in : (xs : Terms) → AllByRecursion (λ t. t.1 ≢ 0) xs → (i : ℕ) (t : Monomial × ℕ) → slice_get xs i ≡ Some t → t.1 ≢ 0
          nonzero_in [] each i t got = absurd (cc)
          nonzero_in (x ∷ xs) each zero t got = let here : x ≡ t = cc in let R : Monomial × ℕ → Type 0 = λ u. u.1 ≢ 0 in subst R here each.0
          nonzero_in (x ∷ xs) each (suc i) t got = nonzero_in xs each.1 i t got

  -- the rest is one, as it is that of a term
  pub whole_read : (m : Monomial) (terms : Terms) (us : Powers) (ts : Terms) → IsReduced k terms → AllByRecursion (λ t. rest_of k w t.0 ≡ m) terms → 1 ≤ length terms → IsReadFrom k mul elements w 0 terms us → ts ≡ plus text_cmp [] (spread w m us)
      → IsReadAtOnce k mul elements w terms bound ts
  whole_read m [] us ts reduced same some is made = absurd (omega (arith, some))
  whole_read m (t ∷ terms) us ts reduced same some is made =
      let rest = subst (IsRest w k) same.0 (is_rest f elements w inside t reduced.terms.0) in
      read_at_once m rest (t ∷ terms) reduced.terms reduced.is_map.nonzero same m us ts refl is made
