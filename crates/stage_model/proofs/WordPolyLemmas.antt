-- The stages of a word as products and sums of polynomials.
use Rattle.std.proofs.Common.{◌≡◌, ◌∙◌, ap, sym, refl, subst, ℕ, zero, suc, ◌<◌, ◌≤◌, ◌+◌, ◌-◌, ◌*◌, Bool, true, false, cond, not, ◌&&◌, ◌==◌, List, [], ◌∷◌, ◌++◌, length, take, get_or, Some, bit_xor, arith}
use Rattle.std.specs.Prelude.{slice_get, nat_le, nat_lt}
use Rattle.std.specs.Int.{bit_at}
use Rattle.std.specs.List.{list_all, filter}
use Rattle.std.specs.List.Sorted.{IsStrictlySortedBy}
use Rattle.std.proofs.lemmas.Bool.{eqb-true, eqb-false}
use Rattle.std.proofs.lemmas.Bool.Decides.{nat_tests}
use Rattle.std.proofs.lemmas.List.{take_more, length-take, get_or-take}
use Rattle.std.proofs.lemmas.List.Folds.{list_all-append}
use Rattle.std.proofs.lemmas.Nat.Bits.{bit_at-lt}
use Rattle.std.proofs.lemmas.Option.{slice_get_within, get_or_from_slice_get}
use lib.Bits.{xor_zero_r, xor_zero_l, xor_assoc}
use Rattle.std.proofs.Math.Seq.{take-length}
use Rattle.lists.specs.laws.NumberLaws.{bit_is_choice}
use Rattle.lists.specs.laws.ReadLaws.{got_at}
use Rattle.poly_mixed.specs.Monomial.{Monomial}
use Rattle.poly_mixed.specs.Polynomial.{Terms, Point, IsPoint, IsElement, IsTerm, IsReduced, powers, term_value, value}
use Rattle.poly_mixed.specs.Product.{IsProduct}
use Rattle.poly_mixed.specs.Sum.{with_coefficient}
use Rattle.poly_mixed.proofs.FieldLaws.{IsField}
use Rattle.poly_mixed.proofs.ValueLemmas.{product_zero, powers_element, zero_element, one_element}
use Rattle.poly_mixed.proofs.ProductLemmas.{one_term, and_assoc}
use Rattle.poly_mixed.proofs.CofactorLemmas.{rising-filter}
use Rattle.stage_model.specs.WordStage.{is_of_word, word_bits, with_word}
use Rattle.stage_model.specs.PlainWord.{IsReading, IsBitOf, IsProductOf, IsSumOf}
use Rattle.stage_model.proofs.MixLemmas.{of_taken}

-- what stands in a filtered list passes
pub filter_passes : (q : ℕ → Bool) (xs : List ℕ) (i x : ℕ) → slice_get (filter q xs) i ≡ Some x → q x ≡ true
filter_passes q [] i x got = absurd (cc)
filter_passes q (y ∷ ys) i x got =
    elim (q y) as (λ b. q y ≡ b → slice_get (cond b (y ∷ filter q ys) (filter q ys)) i ≡ Some x → q x ≡ true) [
      | true ↦ λ e here. kept i e here (λ j later. filter_passes q ys j x later)
      | false ↦ λ e here. filter_passes q ys i x here
    ] refl got
  where
    kept : (i : ℕ) → q y ≡ true → slice_get (y ∷ filter q ys) i ≡ Some x → ((j : ℕ) → slice_get (filter q ys) j ≡ Some x → q x ≡ true) → q x ≡ true
    kept zero e here more = let same : y ≡ x = cc in let P : ℕ → Type 0 = λ z. q z ≡ true in subst P same e
    kept (suc j) e here more = more j here

pub own_range : (k w r : ℕ) → is_of_word k w r ≡ true → (k * w ≤ r) × (r < k * w + k)
own_range k w r is = by (k * w) is
  where
    by : (b : ℕ) → (nat_le b r && nat_lt r (b + k)) ≡ true → (b ≤ r) × (r < b + k)
    by b e = (grind (arith, nat_tests), grind (arith, nat_tests))

module _ (k w d : ℕ) (p : Point) where
  other_same : (rs : List ℕ) → list_all (with_word k w d p).is_one (filter (λ r. not (is_of_word k w r)) rs) ≡ list_all p.is_one (filter (λ r. not (is_of_word k w r)) rs)
  other_same [] = refl
  other_same (r ∷ rs) =
      elim (is_of_word k w r) as (λ b. is_of_word k w r ≡ b → list_all (with_word k w d p).is_one (cond (not b) (r ∷ filter (λ r. not (is_of_word k w r)) rs) (filter (λ r. not (is_of_word k w r)) rs)) ≡ list_all p.is_one (cond (not b) (r ∷ filter (λ r. not (is_of_word k w r)) rs) (filter (λ r. not (is_of_word k w r)) rs))) [
        | true ↦ λ e. other_same rs
        | false ↦ λ e. λ i. cond (e i) (bit_at d (r - k * w) == 1) (p.is_one r) && other_same rs i
      ] refl

  more_all : (own rest : List ℕ) (i u : ℕ) → slice_get own i ≡ Some u → list_all (with_word k w d p).is_one (take (i + 1) own ++ rest) ≡ (list_all (with_word k w d p).is_one (take i own ++ rest) && (with_word k w d p).is_one u)
  more_all own rest i u got =
      let q : ℕ → Bool = (with_word k w d p).is_one in
      let is : take (i + 1) own ≡ take i own ++ u ∷ [] = take_more own i 0 (slice_get_within own i u got) ∙ ap (λ x. take i own ++ x ∷ []) (get_or_from_slice_get own i u 0 got) in
      ap (λ xs. list_all q (xs ++ rest)) is
      ∙ (list_all-append q (take i own ++ u ∷ []) rest
      ∙ (ap (λ b. b && list_all q rest) (list_all-append q (take i own) (u ∷ []))
      ∙ (swap (list_all q (take i own)) (q u) (list_all q rest) ∙ ap (λ b. b && q u) (sym (list_all-append q (take i own) rest)))))
    where
      swap : (a b c : Bool) → ((a && (b && true)) && c) ≡ ((a && c) && b)
      swap true true true = refl
      swap true true false = refl
      swap true false true = refl
      swap true false false = refl
      swap false b c = refl

module _ {k : ℕ} {mul : ℕ → ℕ → ℕ} (f : IsField k mul) (elements : List ℕ) (w : ℕ) (t : Monomial × ℕ) (is : IsTerm k t) where
  -- the term without its bits of the word
  pub product_first : (m : Monomial) (ts : Terms) → m ≡ record { exponents = t.0.exponents; bits = filter (λ r. not (is_of_word k w r)) t.0.bits } → ts ≡ with_coefficient m t.1 [] → IsProductOf k mul elements w t 0 ts
  unfolding IsStrictlySortedBy
  product_first m ts m_is ts_is =
      let rest : Monomial = record { exponents = t.0.exponents; bits = filter (λ r. not (is_of_word k w r)) t.0.bits } in
      let P : Terms → Type 0 = λ us. IsProductOf k mul elements w t 0 us in
      let Q : Monomial → Type 0 = λ n. IsProductOf k mul elements w t 0 (with_coefficient n t.1 []) in
      let whole : IsTerm k (rest, t.1) = record { monomial = record { words = is.monomial.words; exponents = is.monomial.exponents; rising = rising-filter (λ r. not (is_of_word k w r)) t.0.bits is.monomial.rising }; element = is.element } in
      subst P (sym ts_is) (subst Q (sym m_is) (record { reduced = reduced rest whole; values = λ p d at bits. one rest p at ∙ ap (λ b. cond b (mul t.1 (powers mul t.0.exponents p.words)) 0) (sym (other_same k w d p t.0.bits)) }))
    where
      reduced : (n : Monomial) → IsTerm k (n, t.1) → IsReduced k (with_coefficient n t.1 [])
      reduced n whole = elim (t.1 == 0) as (λ b. (t.1 == 0) ≡ b → IsReduced k (cond b [] ((n, t.1) ∷ []))) [
        | true ↦ λ e. record { is_map = record { sorted = tt; rising = tt; nonzero = tt }; terms = tt }
        | false ↦ λ e. one_term f n t.1 whole (eqb-false t.1 0 e)
      ] refl

      one : (n : Monomial) (p : Point) → IsPoint k p → value mul p (with_coefficient n t.1 []) ≡ term_value mul p (n, t.1)
      one n p at = elim (t.1 == 0) as (λ b. (t.1 == 0) ≡ b → value mul p (cond b [] ((n, t.1) ∷ [])) ≡ term_value mul p (n, t.1)) [
        | true ↦ λ e. sym (ap (λ c. cond (list_all p.is_one n.bits) (mul c (powers mul n.exponents p.words)) 0) (eqb-true t.1 0 e)
            ∙ (ap (λ x. cond (list_all p.is_one n.bits) x 0) (product_zero f (powers mul n.exponents p.words) (powers_element f n.exponents p.words at.elements)) ∙ none (list_all p.is_one n.bits)))
        | false ↦ λ e. xor_zero_r (term_value mul p (n, t.1))
      ] refl
        where
          none : (b : Bool) → ◌≡◌ {A = ℕ} (cond b 0 0) 0
          none true = refl
          none false = refl

  -- one more bit of the word
  pub product_next : (i u : ℕ) (ts bs new : Terms) → slice_get (word_bits k w t) i ≡ Some u → IsProductOf k mul elements w t i ts → IsBitOf k mul elements w (u - k * w) bs → IsReduced k new → IsProduct k mul new ts bs → IsProductOf k mul elements w t (i + 1) new
  product_next i u ts bs new got before bit reduced product = record {
    reduced = reduced;
    values = λ p d at bits.
        let q : Point = with_word k w d p in
        let rest : List ℕ = filter (λ r. not (is_of_word k w r)) t.0.bits in
        let whole : ℕ = mul t.1 (powers mul t.0.exponents p.words) in
        let own : is_of_word k w u ≡ true = filter_passes (is_of_word k w) t.0.bits i u got in
        let one : q.is_one u ≡ (bit_at d (u - k * w) == 1) = ap (λ b. cond b (bit_at d (u - k * w) == 1) (p.is_one u)) own in
        let in_field : IsElement k whole = f.closed t.1 (powers mul t.0.exponents p.words) is.element (powers_element f t.0.exponents p.words at.elements) in
        product p at
        ∙ ((λ j. mul (before.values p d at bits j) ((bit.values p d at bits ∙ bit_is_choice (bit_at d (u - k * w)) (bit_at-lt d (u - k * w))) j))
        ∙ (times whole in_field (list_all q.is_one (take i (word_bits k w t) ++ rest)) (bit_at d (u - k * w) == 1)
        ∙ ap (λ b. cond b whole 0) (ap (λ b. list_all q.is_one (take i (word_bits k w t) ++ rest) && b) (sym one) ∙ sym (more_all k w d p (word_bits k w t) rest i u got))));
  }
    where
      times : (x : ℕ) → IsElement k x → (a b : Bool) → mul (cond a x 0) (cond b 1 0) ≡ cond (a && b) x 0
      times x less true true = f.comm x 1 less (one_element f) ∙ f.neutral x less
      times x less true false = f.comm x 0 less (zero_element f) ∙ product_zero f x less
      times x less false true = product_zero f 1 (one_element f)
      times x less false false = product_zero f 0 (zero_element f)

pub rest_is : (k j w : ℕ) (xs ys rest : List ℕ) → rest ≡ filter (λ r. not (is_of_word k w r)) xs → k ≡ j → xs ≡ ys → rest ≡ filter (λ r. not (is_of_word j w r)) ys
rest_is k j w xs ys rest is same equal = is ∙ (λ i. filter (λ r. not (is_of_word (same i) w r)) (equal i))

pub own_is : (k j w : ℕ) (xs ys own : List ℕ) → own ≡ filter (is_of_word k w) xs → k ≡ j → xs ≡ ys → own ≡ filter (is_of_word j w) ys
own_is k j w xs ys own is same equal = is ∙ (λ i. filter (is_of_word (same i) w) (equal i))

-- the rank at a turn of the loop
pub turn_rank : (own bits : List ℕ) (k w count i u : ℕ) → own ≡ filter (is_of_word k w) bits → i < length (take count own) → get_or (take count own) i 0 ≡ u → slice_get (filter (is_of_word k w) bits) i ≡ Some u
turn_rank own bits k w count i u is less at =
    let P : List ℕ → Type 0 = λ xs. slice_get xs i ≡ Some u in
    subst P is (of_taken count own i u (got_at (take count own) i u 0 less at))

-- ---- whole terms and sums

split_all : (q f : ℕ → Bool) (xs : List ℕ) → (list_all q (filter f xs) && list_all q (filter (λ x. not (f x)) xs)) ≡ list_all q xs
split_all q f [] = refl
split_all q f (x ∷ xs) =
    elim (f x) as (λ b. (list_all q (cond b (x ∷ filter f xs) (filter f xs)) && list_all q (cond (not b) (x ∷ filter (λ x. not (f x)) xs) (filter (λ x. not (f x)) xs))) ≡ (q x && list_all q xs)) [
      | true ↦ and_assoc (q x) (list_all q (filter f xs)) (list_all q (filter (λ x. not (f x)) xs)) ∙ ap (λ b. q x && b) (split_all q f xs)
      | false ↦ second (q x) (list_all q (filter f xs)) (list_all q (filter (λ x. not (f x)) xs)) ∙ ap (λ b. q x && b) (split_all q f xs)
    ]
  where
    second : (a b c : Bool) → (b && (a && c)) ≡ (a && (b && c))
    second true b c = refl
    second false true c = refl
    second false false c = refl

-- a term with all its bits of the word read from the word
pub whole_term : (k : ℕ) (mul : ℕ → ℕ → ℕ) (elements : List ℕ) (w : ℕ) (t : Monomial × ℕ) (ts : Terms) → IsProductOf k mul elements w t (length (word_bits k w t)) ts → IsReading k mul elements w (λ d p. term_value mul (with_word k w d p) t) ts
whole_term k mul elements w t ts is = record {
  reduced = is.reduced;
  values = λ p d at bits.
      let q : ℕ → Bool = (with_word k w d p).is_one in
      let rest : List ℕ = filter (λ r. not (is_of_word k w r)) t.0.bits in
      is.values p d at bits
      ∙ ap (λ b. cond b (mul t.1 (powers mul t.0.exponents p.words)) 0)
      (ap (λ xs. list_all q (xs ++ rest)) (take-length (word_bits k w t)) ∙ (list_all-append q (word_bits k w t) rest ∙ split_all q (is_of_word k w) t.0.bits));
}

value_last : (mul : ℕ → ℕ → ℕ) (p : Point) (ts : Terms) (t : Monomial × ℕ) → value mul p (ts ++ t ∷ []) ≡ bit_xor (value mul p ts) (term_value mul p t)
value_last mul p [] t = xor_zero_r (term_value mul p t) ∙ sym (xor_zero_l (term_value mul p t))
value_last mul p (u ∷ ts) t = ap (bit_xor (term_value mul p u)) (value_last mul p ts t) ∙ sym (xor_assoc (term_value mul p u) (value mul p ts) (term_value mul p t))

-- one more term
pub sum_next : (k : ℕ) (mul : ℕ → ℕ → ℕ) (elements : List ℕ) (w : ℕ) (terms : Terms) (i : ℕ) (t : Monomial × ℕ) (sum part new : Terms) → i < length terms → get_or terms i t ≡ t → IsSumOf k mul elements w terms i sum
    → IsReading k mul elements w (λ d p. term_value mul (with_word k w d p) t) part → IsReduced k new → ((p : Point) → IsPoint k p → value mul p new ≡ bit_xor (value mul p sum) (value mul p part)) → IsSumOf k mul elements w terms (i + 1) new
sum_next k mul elements w terms i t sum part new less at_i before one reduced adds = record {
  reduced = reduced;
  values = λ p d at bits.
      let q : Point = with_word k w d p in
      let is : take (i + 1) terms ≡ take i terms ++ t ∷ [] = take_more terms i t less ∙ ap (λ x. take i terms ++ x ∷ []) at_i in
      adds p at ∙ ((λ j. bit_xor (before.values p d at bits j) (one.values p d at bits j)) ∙ (sym (value_last mul q (take i terms) t) ∙ ap (value mul q) (sym is)));
}

-- the term at a turn of the loop
pub taken_item : (terms : Terms) (count i : ℕ) (t : Monomial × ℕ) → i < length (take count terms) → t ≡ get_or (take count terms) i t → (i < length terms) × (get_or terms i t ≡ t)
taken_item terms count i t less is =
    let low : i < count = omega (arith, less, length-take count terms) in
    (omega (arith, less, length-take count terms), sym (get_or-take count terms i t low) ∙ sym is)
