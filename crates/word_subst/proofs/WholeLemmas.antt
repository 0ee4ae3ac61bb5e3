-- The values of a polynomial times the bits of a word, and polynomials in words for its first terms.
use Rattle.std.proofs.Common.{◌≡◌, ◌≢◌, ◌∙◌, ap, sym, refl, subst, inl, inr, ℕ, zero, suc, ◌<◌, ◌≤◌, ◌+◌, ◌-◌, ◌*◌, ◌/◌, ◌%◌, ◌==◌, ◌&&◌, Bool, true, false, cond, List, [], ◌∷◌, ◌++◌, map, length, take, drop, slice_index, bit_xor, arith}
use Rattle.std.specs.Int.{bit_at}
use Rattle.std.specs.Int.Bits.{xor_zero_l, xor_zero_r, xor_assoc, xor_comm, xor_lt}
use Rattle.std.specs.List.{AllByRecursion, list_all}
use Rattle.std.proofs.lemmas.Bool.{cases_lt}
use Rattle.std.proofs.lemmas.List.{take-map, length-map, append_assoc}
use Rattle.std.proofs.lemmas.Nat.Bits.{bit_at-lt, bit_at-suc}
use Rattle.lists.specs.laws.ListLaws.{all_append}
use Rattle.lists.specs.laws.ReadLaws.{get_below}
use Rattle.gf_basis.specs.Basis.{AreBits}
use Rattle.irreducible.specs.Span.{combination}
use Rattle.poly_mixed.specs.Polynomial.{Terms, Point, IsPoint, IsElement, powers, term_value, value}
use Rattle.poly_mixed.proofs.FieldLaws.{IsField}
use Rattle.poly_mixed.proofs.ProductLemmas.{distrib_right}
use Rattle.poly_mixed.proofs.ValueLemmas.{one_element, zero_element, powers_element, product_zero, product_by_zero}
use Rattle.stage_model.specs.WordStage.{is_of_word, with_word}
use Rattle.stage_model.proofs.PlaceLemmas.{is_own}
use Rattle.word_subst.specs.Univariate.{Powers, IsUnivariate, value_of}
use Rattle.word_subst.proofs.FirstBitLemmas.{other_tests}
use Rattle.word_subst.specs.Forms.{IsForm, IsLinear, AreForms}
use Rattle.word_subst.specs.Multiple.{multiplied}
use Rattle.word_subst.specs.Spread.{Groups, total, spread, all_terms, IsGroup}
use Rattle.word_subst.specs.Whole.{with_first, times_bits, IsPart}
use Rattle.word_subst.proofs.LinearLemmas.{linear_few, scaled, scaled_at, next_sum, next_univariate, next_linear, next_at}
use Rattle.word_subst.proofs.PrefixLemmas.{take_append}
use Rattle.word_subst.proofs.SpreadLemmas.{spread_value, word_element}
use Rattle.word_subst.proofs.UnivariateLemmas.{xor_sum-append, value_of_element}

-- ---- lists

take_nothing : {X : Type 0} (n : ℕ) → take {A = X} n [] ≡ []
take_nothing zero = refl
take_nothing (suc n) = refl

take_past : {X : Type 0} (n : ℕ) (xs ys : List X) → length xs ≤ n → take n (xs ++ ys) ≡ xs ++ take (n - length xs) ys
take_past n [] ys most = let same : n - 0 ≡ n = omega arith in ap (λ i. take i ys) (sym same)
take_past zero (x ∷ xs) ys most = absurd (omega arith)
take_past (suc n) (x ∷ xs) ys most = let same : suc n - suc (length xs) ≡ n - length xs = omega arith in ap (λ zs. x ∷ zs) (take_past n xs ys (omega arith)) ∙ ap (λ j. x ∷ xs ++ take j ys) (sym same)

-- ---- groups

pub total_append : (gs hs : Groups) → total (gs ++ hs) ≡ total gs + total hs
total_append [] hs = omega arith
total_append (g ∷ gs) hs = omega (arith, total_append gs hs)

-- k for each term
abbrev pub room : ℕ → Terms → ℕ
room k [] = 0
room k (t ∷ ts) = k + room k ts

room_split : (k n : ℕ) (ts : Terms) → room k (take n ts) + room k (drop n ts) ≡ room k ts
room_split k zero ts = omega arith
room_split k (suc n) [] = omega arith
room_split k (suc n) (t ∷ ts) = omega (arith, room_split k n ts)

-- each term times a polynomial in the word
abbrev pub times_poly : ℕ → (ℕ → ℕ → ℕ) → Powers → Terms → Groups
times_poly k mul us ts = map (λ t. (t.0, multiplied k mul (0, t.1) us)) ts

-- a place of the word's ranks is the rank less those before the word
pub place_of : (k w i : ℕ) → k * w + i - k * w ≡ i
place_of k w i = by (k * w)
  where
    by : (b : ℕ) → b + i - b ≡ i
    by b = omega arith

pub next_rank : (k w i : ℕ) → k * w + i + 1 ≡ k * w + suc i
next_rank k w i = by (k * w)
  where
    by : (b : ℕ) → b + i + 1 ≡ b + suc i
    by b = omega arith

-- a factor in front of a choice
pub moved : {k : ℕ} {mul : ℕ → ℕ → ℕ} → IsField k mul → (b : Bool) (c v q : ℕ) → IsElement k c → IsElement k v → IsElement k q → cond b (mul (mul c v) q) 0 ≡ mul v (cond b (mul c q) 0)
moved {mul = mul} f true c v q hc hv hq = ap (λ n. mul n q) (f.comm c v hc hv) ∙ f.assoc v c q hv hc hq
moved f false c v q hc hv hq = sym (product_by_zero f v hv)

module _ {k : ℕ} {mul : ℕ → ℕ → ℕ} (f : IsField k mul) (w : ℕ) (inside : w < 8) where
  -- ---- parts

  pub part_value : (p : Point) → IsPoint k p → (ts : Terms) → AllByRecursion (IsPart w k) ts → IsElement k (value mul p ts)
  part_value p at [] all = zero_element f
  part_value p at (t ∷ ts) all = xor_lt k (term_value mul p t) (value mul p ts) (chosen (list_all p.is_one t.0.bits)) (part_value p at ts all.1)
    where
      chosen : (b : Bool) → IsElement k (cond b (mul t.1 (powers mul t.0.exponents p.words)) 0)
      chosen true = f.closed t.1 (powers mul t.0.exponents p.words) all.0.element (powers_element f t.0.exponents p.words at.elements)
      chosen false = zero_element f

  pub take_parts : (n : ℕ) (ts : Terms) → AllByRecursion (IsPart w k) ts → AllByRecursion (IsPart w k) (take n ts)
  take_parts zero ts all = tt
  take_parts (suc n) [] all = tt
  take_parts (suc n) (t ∷ ts) all = (all.0, take_parts n ts all.1)

  drop_parts : (n : ℕ) (ts : Terms) → AllByRecursion (IsPart w k) ts → AllByRecursion (IsPart w k) (drop n ts)
  drop_parts zero ts all = all
  drop_parts (suc n) [] all = tt
  drop_parts (suc n) (t ∷ ts) all = drop_parts n ts all.1

  value_split : (p : Point) (n : ℕ) (ts : Terms) → bit_xor (value mul p (take n ts)) (value mul p (drop n ts)) ≡ value mul p ts
  value_split p zero ts = xor_zero_l (value mul p ts)
  value_split p (suc n) [] = xor_zero_l 0
  value_split p (suc n) (t ∷ ts) = xor_assoc (term_value mul p t) (value mul p (take n ts)) (value mul p (drop n ts)) ∙ ap (bit_xor (term_value mul p t)) (value_split p n ts)

  -- ---- times a polynomial in the word

  pub poly_groups : (us : Powers) (ts : Terms) → IsUnivariate k us → AllByRecursion (IsPart w k) ts → AllByRecursion (IsGroup w k) (times_poly k mul us ts)
  poly_groups us [] is all = tt
  poly_groups us (t ∷ ts) is all = (record { rest = all.0.rest; powers = (scaled f t.1 us all.0.element all.0.some is).0.univariate }, poly_groups us ts is all.1)

  poly_few : (us : Powers) (ts : Terms) → IsUnivariate k us → IsLinear k us → AllByRecursion (IsPart w k) ts → total (times_poly k mul us ts) ≤ room k ts
  poly_few us [] is linear all = omega arith
  poly_few us (t ∷ ts) is linear all = omega (arith, (scaled f t.1 us all.0.element all.0.some is).1, linear_few k us is linear, poly_few us ts is linear all.1)

  poly_value : (us : Powers) (ts : Terms) → IsUnivariate k us → AllByRecursion (IsPart w k) ts → (p : Point) → IsPoint k p → value mul p (all_terms w (times_poly k mul us ts)) ≡ mul (value_of mul (slice_index p.words w) us) (value mul p ts)
  poly_value us [] is all p at = sym (product_by_zero f (value_of mul (slice_index p.words w) us) (value_of_element f (slice_index p.words w) us (word_element f p w at inside) is.powers))
  poly_value us (t ∷ ts) is all p at =
      let x = slice_index p.words w in
      let hx = word_element f p w at inside in
      let v = value_of mul x us in
      let hv = value_of_element f x us hx is.powers in
      let q = powers mul t.0.exponents p.words in
      let hq = powers_element f t.0.exponents p.words at.elements in
      let own = scaled f t.1 us all.0.element all.0.some is in
      let one = term_value mul p t in
      let chosen : (b : Bool) → IsElement k (cond b (mul t.1 q) 0) = λ b. elim b as (λ c. IsElement k (cond c (mul t.1 q) 0)) [ true ↦ f.closed t.1 q all.0.element hq | false ↦ zero_element f ] in
      xor_sum-append (term_value mul p) (spread w t.0 (multiplied k mul (0, t.1) us)) (all_terms w (times_poly k mul us ts))
      ∙ ((λ i. bit_xor
      ((spread_value f w inside p t.0 (multiplied k mul (0, t.1) us) at all.0.rest own.0.univariate.powers
      ∙ (ap (λ n. cond (list_all p.is_one t.0.bits) (mul n q) 0) (scaled_at f t.1 x us all.0.element all.0.some is hx)
      ∙ moved f (list_all p.is_one t.0.bits) t.1 v q all.0.element hv hq)) i)
      (poly_value us ts is all.1 p at i))
      ∙ sym (distrib_right f v one (value mul p ts) hv (chosen (list_all p.is_one t.0.bits)) (part_value p at ts all.1)))

  -- ---- times a bit

  chosen_product : (a b : Bool) (e c q : ℕ) → IsElement k e → IsElement k c → IsElement k q → cond (a && b) (mul (mul e c) q) 0 ≡ cond a (mul e (cond b (mul c q) 0)) 0
  chosen_product true true e c q he hc hq = f.assoc e c q he hc hq
  chosen_product true false e c q he hc hq = sym (product_by_zero f e he)
  chosen_product false b e c q he hc hq = refl

  chosen_sum : (a : Bool) (e x y : ℕ) → IsElement k e → IsElement k x → IsElement k y → bit_xor (cond a (mul e x) 0) (cond a (mul e y) 0) ≡ cond a (mul e (bit_xor x y)) 0
  chosen_sum true e x y he hx hy = sym (distrib_right f e x y he hx hy)
  chosen_sum false e x y he hx hy = xor_zero_l 0

  nothing_chosen : (a : Bool) (e : ℕ) → IsElement k e → ◌≡◌ {A = ℕ} 0 (cond a (mul e 0) 0)
  nothing_chosen true e he = sym (product_by_zero f e he)
  nothing_chosen false e he = refl

  -- the terms times an element and a bit of the word
  pub first_value : (rank e : ℕ) (ts : Terms) → is_of_word k w rank ≡ true → IsElement k e → AllByRecursion (IsPart w k) ts → (p : Point) (d : ℕ) → IsPoint k p
      → value mul (with_word k w d p) (map (with_first mul rank e) ts) ≡ cond (bit_at d (rank - k * w) == 1) (mul e (value mul p ts)) 0
  first_value rank e [] own he all p d at = nothing_chosen (bit_at d (rank - k * w) == 1) e he
  first_value rank e (t ∷ ts) own he all p d at =
      let a : Bool = bit_at d (rank - k * w) == 1 in
      let q = powers mul t.0.exponents p.words in
      let hq = powers_element f t.0.exponents p.words at.elements in
      let chosen : (b : Bool) → IsElement k (cond b (mul t.1 q) 0) = λ b. elim b as (λ c. IsElement k (cond c (mul t.1 q) 0)) [ true ↦ f.closed t.1 q all.0.element hq | false ↦ zero_element f ] in
      (λ i. bit_xor
      (((λ j. cond (cond (own j) (bit_at d (rank - k * w) == 1) (p.is_one rank) && other_tests k w d p t.0.bits all.0.others j) (mul (mul e t.1) q) 0)
      ∙ chosen_product a (list_all p.is_one t.0.bits) e t.1 q he all.0.element hq) i)
      (first_value rank e ts own he all.1 p d at i))
      ∙ chosen_sum a e (term_value mul p t) (value mul p ts) he (chosen (list_all p.is_one t.0.bits)) (part_value p at ts all.1)

  -- ---- times all bits

  bit_cases : (n : ℕ) → n < 2 → (b v : ℕ) → IsElement k b → IsElement k v → mul (n * b) v ≡ cond (n == 1) (mul b v) 0
  bit_cases zero less b v hb hv = let none : 0 * b ≡ 0 = omega arith in ap (λ m. mul m v) none ∙ product_zero f v hv
  bit_cases (suc zero) less b v hb hv = let one : 1 * b ≡ b = omega arith in ap (λ m. mul m v) one
  bit_cases (suc (suc n)) less b v hb hv = absurd (omega arith)

  times_one_bit : (n : ℕ) → n < 2 → (b v : ℕ) → IsElement k b → IsElement k v → mul (mul b n) v ≡ cond (n == 1) (mul b v) 0
  times_one_bit zero less b v hb hv = ap (λ m. mul m v) (product_by_zero f b hb) ∙ product_zero f v hv
  times_one_bit (suc zero) less b v hb hv = ap (λ m. mul m v) (f.comm b 1 hb (one_element f) ∙ f.neutral b hb)
  times_one_bit (suc (suc n)) less b v hb hv = absurd (omega arith)

  low_product : (n : ℕ) → n < 2 → (b : ℕ) → IsElement k b → IsElement k (n * b)
  low_product zero less b hb = let none : 0 * b ≡ 0 = omega arith in subst (IsElement k) (sym none) (zero_element f)
  low_product (suc zero) less b hb = let one : 1 * b ≡ b = omega arith in subst (IsElement k) (sym one) hb
  low_product (suc (suc n)) less b hb = absurd (omega arith)

  combination_element : (bs : List ℕ) (c : ℕ) → AllByRecursion (λ b. IsElement k b × (b ≢ 0)) bs → IsElement k (combination bs c)
  combination_element [] c all = zero_element f
  combination_element (b ∷ bs) c all = xor_lt k (c % 2 * b) (combination bs (c / 2)) (low_product (c % 2) (omega arith) b all.0.0) (combination_element bs (c / 2) all.1)

  -- the terms times all these bits, which are those of the number e and stand from place i on in d
  pub bits_value : (i : ℕ) (bs : List ℕ) (ts : Terms) (e : ℕ) → i + length bs ≤ k → AllByRecursion (λ b. IsElement k b × (b ≢ 0)) bs → AllByRecursion (IsPart w k) ts → (p : Point) (d : ℕ) → IsPoint k p → ((j : ℕ) → bit_at d (i + j) ≡ bit_at e j)
      → value mul (with_word k w d p) (times_bits mul (k * w + i) bs ts) ≡ mul (combination bs e) (value mul p ts)
  bits_value i [] ts e most elements all p d at same = sym (product_zero f (value mul p ts) (part_value p at ts all))
  bits_value i (b ∷ bs) ts e most elements all p d at same =
      let v = value mul p ts in
      let hv = part_value p at ts all in
      let hb = elements.0.0 in
      let low : bit_at d i ≡ e % 2 = (let here : i + 0 ≡ i = omega arith in sym (ap (bit_at d) here) ∙ same 0 ∙ omega arith) in
      let half : (j : ℕ) → bit_at d (suc i + j) ≡ bit_at (e / 2) j = λ j. (let up : suc i + j ≡ i + suc j = omega arith in ap (bit_at d) up ∙ same (suc j) ∙ bit_at-suc e j) in
      let bit : e % 2 < 2 = omega arith in
      let rest = bits_value (suc i) bs ts (e / 2) (omega (arith, most)) elements.1 all p d at half in
      xor_sum-append (term_value mul (with_word k w d p)) (map (with_first mul (k * w + i) b) ts) (times_bits mul (k * w + i + 1) bs ts)
      ∙ ((λ j. bit_xor
      ((first_value (k * w + i) b ts (is_own k w i (omega (arith, most))) hb all p d at
      ∙ ((λ h. cond (bit_at d (place_of k w i h) == 1) (mul b v) 0)
      ∙ (ap (λ n. cond (n == 1) (mul b v) 0) low
      ∙ sym (bit_cases (e % 2) bit b v hb hv)))) j)
      ((ap (λ r. value mul (with_word k w d p) (times_bits mul r bs ts)) (next_rank k w i) ∙ rest) j))
      ∙ sym (f.distrib (e % 2 * b) (combination bs (e / 2)) v (low_product (e % 2) bit b hb) (combination_element bs (e / 2) elements.1) hv))

  -- ---- the first terms

  -- polynomials in the word for the terms ts, beside all the parts times us
  pub record HasGroups (elements : List ℕ) (parts : Terms) (us : Powers) (ts : Terms) : Type 0 where
    pub groups : Groups
    pub are : AllByRecursion (IsGroup w k) groups
    pub few : total groups ≤ room k parts
    pub values : (p : Point) (d : ℕ) → IsPoint k p → AreBits elements (slice_index p.words w) d
        → value mul p (all_terms w groups) ≡ bit_xor (mul (value_of mul (slice_index p.words w) us) (value mul p parts)) (value mul (with_word k w d p) ts)

  terms_append : (gs hs : Groups) → all_terms w (gs ++ hs) ≡ all_terms w gs ++ all_terms w hs
  terms_append [] hs = refl
  terms_append (g ∷ gs) hs = ap (λ ts. spread w g.0 g.1 ++ ts) (terms_append gs hs) ∙ sym (append_assoc (spread w g.0 g.1) (all_terms w gs) (all_terms w hs))

  module _ (elements : List ℕ) (forms : List Powers) (are_forms : AreForms k mul elements forms) (parts : Terms) (all : AllByRecursion (IsPart w k) parts) where
    nothing_more : (us : Powers) → IsUnivariate k us → IsLinear k us → HasGroups elements parts us []
    nothing_more us is linear = record {
      groups = times_poly k mul us parts;
      are = poly_groups us parts is all;
      few = poly_few us parts is linear all;
      values = λ p d at bits. poly_value us parts is all p at ∙ sym (xor_zero_r (mul (value_of mul (slice_index p.words w) us) (value mul p parts)));
    }

    module _ (i : ℕ) (less : i < k) (b : ℕ) (hb : IsElement k b) (some : b ≢ 0) (us form : Powers) (is : IsUnivariate k us) (linear : IsLinear k us) (form_is : IsForm k mul elements i form) where
      new_is : IsUnivariate k (next_sum f b us form)
      new_is = next_univariate f b us form hb some is form_is.univariate

      new_linear : IsLinear k (next_sum f b us form)
      new_linear = next_linear f b us form hb some is form_is.univariate linear form_is.linear

      -- the new polynomial times a value
      new_times : (x d v : ℕ) → IsElement k x → AreBits elements x d → IsElement k v → mul (value_of mul x (next_sum f b us form)) v ≡ bit_xor (mul (value_of mul x us) v) (cond (bit_at d i == 1) (mul b v) 0)
      new_times x d v hx bits hv =
          let u = value_of mul x us in
          let hu = value_of_element f x us hx is.powers in
          let n = bit_at d i in
          let hn : IsElement k (value_of mul x form) = value_of_element f x form hx form_is.univariate.powers in
          ap (λ m. mul m v) (next_at f b us form hb some is form_is.univariate x hx)
          ∙ (f.distrib u (mul b (value_of mul x form)) v hu (f.closed b (value_of mul x form) hb hn) hv
          ∙ ap (bit_xor (mul u v)) (ap (λ m. mul (mul b m) v) (form_is.values x d hx bits) ∙ times_one_bit n (bit_at-lt d i) b v hb hv))

      -- a few of the terms with the bit
      few_more : (s : ℕ) → HasGroups elements parts us (map (with_first mul (k * w + i) b) (take s parts))
      few_more s =
          let front = take s parts in
          let back = drop s parts in
          let front_are = take_parts s parts all in
          let back_are = drop_parts s parts all in
          let gs = times_poly k mul (next_sum f b us form) front in
          let hs = times_poly k mul us back in
          record {
            groups = gs ++ hs;
            are = all_append (IsGroup w k) gs hs (poly_groups (next_sum f b us form) front new_is front_are) (poly_groups us back is back_are);
            few = omega (arith, total_append gs hs, poly_few (next_sum f b us form) front new_is new_linear front_are, poly_few us back is linear back_are, room_split k s parts);
            values = λ p d at bits.
                let x = slice_index p.words w in
                let hx = word_element f p w at inside in
                let u = value_of mul x us in
                let hu = value_of_element f x us hx is.powers in
                let v = value mul p front in
                let y = value mul p back in
                let hv = part_value p at front front_are in
                let hy = part_value p at back back_are in
                let c = cond (bit_at d i == 1) (mul b v) 0 in
                let told : value mul (with_word k w d p) (map (with_first mul (k * w + i) b) front) ≡ c =
                first_value (k * w + i) b front (is_own k w i less) hb front_are p d at ∙ (λ h. cond (bit_at d (place_of k w i h) == 1) (mul b v) 0) in
                ap (value mul p) (terms_append gs hs)
                ∙ (xor_sum-append (term_value mul p) (all_terms w gs) (all_terms w hs)
                ∙ ((λ j. bit_xor ((poly_value (next_sum f b us form) front new_is front_are p at ∙ new_times x d v hx bits hv) j) (poly_value us back is back_are p at j))
                ∙ (xor_assoc (mul u v) c (mul u y)
                ∙ (ap (bit_xor (mul u v)) (xor_comm c (mul u y))
                ∙ (sym (xor_assoc (mul u v) (mul u y) c)
                ∙ (λ j. bit_xor ((sym (distrib_right f u v y hu hv hy) ∙ ap (mul u) (value_split p s parts)) j) (sym told j)))))));
          }

      -- all terms with the bit, and then others
      all_more : (ts : Terms) → HasGroups elements parts (next_sum f b us form) ts → HasGroups elements parts us (map (with_first mul (k * w + i) b) parts ++ ts)
      all_more ts has = record {
        groups = has.groups;
        are = has.are;
        few = has.few;
        values = λ p d at bits.
            let x = slice_index p.words w in
            let hx = word_element f p w at inside in
            let u = value_of mul x us in
            let v = value mul p parts in
            let hv = part_value p at parts all in
            let c = cond (bit_at d i == 1) (mul b v) 0 in
            let r = value mul (with_word k w d p) ts in
            let told : value mul (with_word k w d p) (map (with_first mul (k * w + i) b) parts) ≡ c =
            first_value (k * w + i) b parts (is_own k w i less) hb all p d at ∙ (λ h. cond (bit_at d (place_of k w i h) == 1) (mul b v) 0) in
            has.values p d at bits
            ∙ (ap (λ n. bit_xor n r) (new_times x d v hx bits hv)
            ∙ (xor_assoc (mul u v) c r
            ∙ ap (bit_xor (mul u v)) (ap (λ n. bit_xor n r) (sym told) ∙ sym (xor_sum-append (term_value mul (with_word k w d p)) (map (with_first mul (k * w + i) b) parts) ts))));
      }

    pub first_groups : (i : ℕ) (bs : List ℕ) (us : Powers) (s : ℕ) → i + length bs ≤ k → AllByRecursion (λ b. IsElement k b × (b ≢ 0)) bs → IsUnivariate k us → IsLinear k us → HasGroups elements parts us (take s (times_bits mul (k * w + i) bs parts))
    first_groups i [] us s most each is linear = let P : Terms → Type 0 = HasGroups elements parts us in subst P (sym (take_nothing s)) (nothing_more us is linear)
    first_groups i (b ∷ bs) us s most each is linear =
        let P : Terms → Type 0 = HasGroups elements parts us in
        let less : i < k = omega (arith, most) in
        let form = get_below forms i (omega (arith, less, are_forms.long)) in
        let form_is = are_forms.each i form.0 form.1 in
        let block = map (with_first mul (k * w + i) b) parts in
        let rest = times_bits mul (k * w + i + 1) bs parts in
        let long : length block ≡ length parts = length-map parts (with_first mul (k * w + i) b) in
        elim (cases_lt s (length block)) [
          | inl low ↦ subst P (sym (take_append s block rest (omega (arith, low)) ∙ take-map (with_first mul (k * w + i) b) s parts)) (few_more i less b each.0.0 each.0.1 us form.0 is linear form_is s)
          | inr high ↦
              let new_is = next_univariate f b us form.0 each.0.0 each.0.1 is form_is.univariate in
              let new_linear = next_linear f b us form.0 each.0.0 each.0.1 is form_is.univariate linear form_is.linear in
              let next = first_groups (suc i) bs (next_sum f b us form.0) (s - length block) (omega (arith, most)) each.1 new_is new_linear in
              let Q : ℕ → Type 0 = λ r. HasGroups elements parts (next_sum f b us form.0) (take (s - length block) (times_bits mul r bs parts)) in
              subst P (sym (take_past s block rest high)) (all_more i less b each.0.0 each.0.1 us form.0 is linear form_is (take (s - length block) rest) (subst Q (sym (next_rank k w i)) next))
        ]
