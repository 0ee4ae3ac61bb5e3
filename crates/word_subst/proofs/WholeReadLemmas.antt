-- A polynomial times the bits of a word, each times its basis element, read from the word: its sum, and that no stage is over
-- the bound where it has no more terms than that.
use Rattle.std.proofs.Common.{◌≡◌, ◌≢◌, ◌∙◌, ap, sym, refl, subst, ℕ, zero, suc, ◌<◌, ◌≤◌, ◌+◌, ◌-◌, ◌*◌, ◌^◌, ◌==◌, ◌&&◌, Bool, true, false, cond, List, [], ◌∷◌, ◌++◌, map, length, take, drop, slice_index, bit_xor, suc-mul, arith}
use Rattle.std.specs.Int.{bit_at}
use Rattle.std.specs.Int.Bits.{xor_zero_l, xor_zero_r}
use Rattle.std.specs.List.{AllByRecursion, list_all}
use Rattle.std.proofs.Math.Nat.{mul_comm, add-zero}
use Rattle.std.proofs.Math.Seq.{take-length}
use Rattle.std.proofs.lemmas.List.{length-append, length-map, take-append-drop, drop_more}
use Rattle.std.proofs.lemmas.Nat.Bits.{bit_at-lt}
use Rattle.lists.specs.laws.ListLaws.{all_append}
use Rattle.lists.specs.laws.ReadLaws.{get_below, all_at}
use Rattle.gf_basis.specs.Basis.{AreBits}
use Rattle.gf_field.specs.Element.{AreElements}
use Rattle.gf_field.specs.Power.{power}
use Rattle.poly_mixed.specs.Monomial.{Monomial, text_cmp}
use Rattle.poly_mixed.specs.Polynomial.{Terms, Point, IsPoint, IsTerm, IsElement, IsReduced, powers, term_value, value}
use Rattle.poly_mixed.specs.Sum.{plus}
use Rattle.poly_mixed.proofs.FieldLaws.{IsField}
use Rattle.poly_mixed.proofs.ProductLemmas.{distrib_right}
use Rattle.poly_mixed.proofs.SharedLemmas.{plus_few}
use Rattle.poly_mixed.proofs.ValueLemmas.{one_element, zero_element, powers_element, product_zero, product_by_zero}
use Rattle.stage_model.specs.WordStage.{word_bits, with_word}
use Rattle.stage_model.proofs.PlaceLemmas.{is_own}
use Rattle.word_subst.specs.Univariate.{Powers, IsUnivariate, value_of}
use Rattle.word_subst.specs.Forms.{IsForm, AreForms}
use Rattle.word_subst.specs.Multiple.{multiplied}
use Rattle.word_subst.specs.Prefix.{IsBitProduct}
use Rattle.word_subst.specs.Spread.{total, spread, all_terms, IsGroup}
use Rattle.word_subst.specs.Rest.{rest_of}
use Rattle.word_subst.specs.Read.{HasWithin, sum_at, IsTermWithin}
use Rattle.word_subst.specs.AtOnce.{IsReadAtOnce}
use Rattle.word_subst.specs.Whole.{with_first, times_bits, IsPart, HasFirst, times_word}
use Rattle.word_subst.proofs.FirstBitLemmas.{one_own}
use Rattle.word_subst.proofs.RisingLemmas.{rest_is}
use Rattle.word_subst.proofs.LinearLemmas.{linear_few, scaled}
use Rattle.word_subst.proofs.SomeProductsLemmas.{terms_quiet}
use Rattle.word_subst.proofs.SpreadLemmas.{spread_value, spread_length, word_element, gathered_reduced, gathered_value, groups_terms, groups_nonzero, total_length}
use Rattle.word_subst.proofs.TermPartLemmas.{product_is, is_rest}
use Rattle.word_subst.proofs.UnivariateLemmas.{xor_sum-append, no_powers, one_power}
use Rattle.word_subst.proofs.WholeLemmas.{room, part_value, bits_value, first_groups, HasGroups, place_of, next_rank, moved}

-- ---- lists

all_front : {X : Type 0} (P : X → Type 0) (xs ys : List X) → AllByRecursion P (xs ++ ys) → AllByRecursion P xs
all_front P [] ys all = tt
all_front P (x ∷ xs) ys all = (all.0, all_front P xs ys all.1)

all_end : {X : Type 0} (P : X → Type 0) (xs ys : List X) → AllByRecursion P (xs ++ ys) → AllByRecursion P ys
all_end P [] ys all = all
all_end P (x ∷ xs) ys all = all_end P xs ys all.1

pub some_parts : (w k : ℕ) (ts : Terms) → AllByRecursion (IsPart w k) ts → AllByRecursion (λ t. t.1 ≢ 0) ts
some_parts w k [] all = tt
some_parts w k (t ∷ ts) all = (all.0.some, some_parts w k ts all.1)

pub field_elements : (k : ℕ) (els : List ℕ) → AreElements k els → AllByRecursion (IsElement k) els
field_elements k [] all = tt
field_elements k (x ∷ xs) all = (all 0 (omega arith), field_elements k xs (λ i less. all (suc i) (omega arith)))

-- one block more
pub block_more : (mul : ℕ → ℕ → ℕ) (rank place m b : ℕ) (els : List ℕ) (parts rest : Terms) → m ≤ length rest → place < length els → b ≡ slice_index els place → take m rest ≡ map (with_first mul (rank + place) b) parts
    → take (length rest - m) (drop m rest) ≡ times_bits mul (rank + (place + 1)) (drop (place + 1) els) parts → rest ≡ times_bits mul (rank + place) (drop place els) parts
block_more mul rank place m b els parts rest most less is block next =
    let up : rank + (place + 1) ≡ rank + place + 1 = omega arith in
    sym (take-append-drop m rest)
    ∙ ((λ i. block i ++ (sym (rest_is m rest) ∙ next) i)
    ∙ ((λ i. map (with_first mul (rank + place) (is i)) parts ++ times_bits mul (up i) (drop (place + 1) els) parts)
    ∙ ap (λ bs. times_bits mul (rank + place) bs parts) (sym (drop_more els place 0 less))))

-- ---- sizes

bits_length : (mul : ℕ → ℕ → ℕ) (rank : ℕ) (bs : List ℕ) (ts : Terms) → length (times_bits mul rank bs ts) ≡ length bs * length ts
bits_length mul rank [] ts = omega arith
bits_length mul rank (b ∷ bs) ts =
    let rest = bits_length mul (rank + 1) bs ts in
    length-append (map (with_first mul rank b) ts) (times_bits mul (rank + 1) bs ts)
    ∙ ((λ i. length-map ts (with_first mul rank b) i + rest i)
    ∙ more (length bs) (length ts))
  where
    more : (n m : ℕ) → m + n * m ≡ suc n * m
    more n m = omega (arith, suc-mul n m)

room_is : (k : ℕ) (ts : Terms) → room k ts ≡ length ts * k
room_is k [] = omega arith
room_is k (t ∷ ts) = ap (λ n. k + n) (room_is k ts) ∙ more (length ts)
  where
    more : (n : ℕ) → k + n * k ≡ suc n * k
    more n = omega (arith, suc-mul n k)

-- ---- the first bit of a term

module _ (k w : ℕ) (mul : ℕ → ℕ → ℕ) where
  block_firsts : (i b : ℕ) (qs : Terms) → i < k → AllByRecursion (IsPart w k) qs → AllByRecursion (HasFirst w k) (map (with_first mul (k * w + i) b) qs)
  block_firsts i b [] less parts = tt
  block_firsts i b (q ∷ qs) less parts = (record { rank = k * w + i; rest = q.0.bits; bits = refl; own = is_own k w i less; others = parts.0.others }, block_firsts i b qs less parts.1)

  all_firsts : (i : ℕ) (bs : List ℕ) (qs : Terms) → i + length bs ≤ k → AllByRecursion (IsPart w k) qs → AllByRecursion (HasFirst w k) (times_bits mul (k * w + i) bs qs)
  all_firsts i [] qs most parts = tt
  all_firsts i (b ∷ bs) qs most parts =
      let P : ℕ → Type 0 = λ r. AllByRecursion (HasFirst w k) (times_bits mul r bs qs) in
      let rest = all_firsts (suc i) bs qs (omega (arith, most)) parts in
      all_append (HasFirst w k) (map (with_first mul (k * w + i) b) qs) (times_bits mul (k * w + i + 1) bs qs) (block_firsts i b qs (omega (arith, most)) parts) (subst P (sym (next_rank k w i)) rest)

  pub whole_firsts : (elements : List ℕ) (parts terms : Terms) → length elements ≡ k → AllByRecursion (IsPart w k) parts → terms ≡ times_bits mul (k * w) elements parts → AllByRecursion (HasFirst w k) terms
  whole_firsts elements parts terms size all is =
      let P : Terms → Type 0 = AllByRecursion (HasFirst w k) in
      let same : terms ≡ times_bits mul (k * w + 0) elements parts = is ∙ ap (λ r. times_bits mul r elements parts) (sym (add-zero (k * w))) in
      subst P (sym same) (all_firsts 0 elements parts (omega (arith, size)) all)

-- ---- one term

module _ {k : ℕ} {mul : ℕ → ℕ → ℕ} (f : IsField k mul) (elements : List ℕ) (w : ℕ) (inside : w < 8) (forms : List Powers) (are_forms : AreForms k mul elements forms) (bound : ℕ) where
  low_bit : (n : ℕ) → n < 2 → ◌≡◌ {A = ℕ} n (cond ((n == 1) && true) 1 0)
  low_bit zero less = refl
  low_bit (suc zero) less = refl
  low_bit (suc (suc n)) less = absurd (omega arith)

  -- the product of one bit is its linear form
  one_product : (i start : ℕ) (form : Powers) → IsForm k mul elements i form → start ≡ 0 → IsBitProduct k mul elements w start ((k * w + i) ∷ []) form
  unfolding power
  one_product i start form is none =
      let P : ℕ → Type 0 = λ s. IsBitProduct k mul elements w s ((k * w + i) ∷ []) form in
      subst P (sym none) (record {
        univariate = is.univariate;
        values = λ x d at bits. is.values x d at bits ∙ low_bit (bit_at d i) (bit_at-lt d i) ∙ sym (λ h. cond ((bit_at d (place_of k w i h) == 1) && true) 1 0);
      })

  term_within : (i b : ℕ) (q : Monomial × ℕ) → i < k → k ≤ bound → IsPart w k q → IsTerm k (with_first mul (k * w + i) b q) → mul b q.1 ≢ 0 → IsTermWithin k mul elements w (with_first mul (k * w + i) b q) bound
  term_within i b q less wide part is some j least most =
      let t : Monomial × ℕ = with_first mul (k * w + i) b q in
      let own : word_bits k w t ≡ (k * w + i) ∷ [] = one_own k w (k * w + i) q.0.bits (is_own k w i less) part.others in
      let last : j ≡ 1 = omega (arith, least, most, ap length own) in
      let form = get_below forms i (omega (arith, less, are_forms.long)) in
      let form_is = are_forms.each i form.0 form.1 in
      let P : List ℕ → Type 0 = λ rs. IsBitProduct k mul elements w (slice_index t.0.exponents w) rs form.0 in
      let taken : take j (word_bits k w t) ≡ (k * w + i) ∷ [] = (λ h. take (last h) (own h)) in
      let product = subst P (sym taken) (one_product i (slice_index t.0.exponents w) form.0 form_is part.rest.none) in
      let multiple = scaled f t.1 form.0 is.element some form_is.univariate in
      let rest = is_rest f elements w inside t is in
      record {
        terms = plus text_cmp [] (spread w (rest_of k w t.0) (multiplied k mul (0, t.1) form.0));
        is = product_is f elements w inside t is j form.0 (multiplied k mul (0, t.1) form.0) product multiple.0;
        within = omega (arith, spread_length w k inside (rest_of k w t.0) (multiplied k mul (0, t.1) form.0) rest multiple.0.univariate, multiple.1, linear_few k form.0 form_is.univariate form_is.linear, wide);
      }

  block_within : (i b : ℕ) (qs : Terms) → i < k → k ≤ bound → AllByRecursion (IsPart w k) qs → AllByRecursion (IsTerm k) (map (with_first mul (k * w + i) b) qs) → AllByRecursion (λ t. t.1 ≢ 0) (map (with_first mul (k * w + i) b) qs)
      → AllByRecursion (λ t. IsTermWithin k mul elements w t bound) (map (with_first mul (k * w + i) b) qs)
  block_within i b [] less wide parts terms some = tt
  block_within i b (q ∷ qs) less wide parts terms some = (term_within i b q less wide parts.0 terms.0 some.0, block_within i b qs less wide parts.1 terms.1 some.1)

  all_within : (i : ℕ) (bs : List ℕ) (qs : Terms) → i + length bs ≤ k → k ≤ bound → AllByRecursion (IsPart w k) qs → AllByRecursion (IsTerm k) (times_bits mul (k * w + i) bs qs) → AllByRecursion (λ t. t.1 ≢ 0) (times_bits mul (k * w + i) bs qs)
      → AllByRecursion (λ t. IsTermWithin k mul elements w t bound) (times_bits mul (k * w + i) bs qs)
  all_within i [] qs most wide parts terms some = tt
  all_within i (b ∷ bs) qs most wide parts terms some =
      let block = map (with_first mul (k * w + i) b) qs in
      let rest = times_bits mul (k * w + i + 1) bs qs in
      let T : ℕ → Type 0 = λ r. AllByRecursion (IsTerm k) (times_bits mul r bs qs) in
      let N : ℕ → Type 0 = λ r. AllByRecursion (λ t. t.1 ≢ 0) (times_bits mul r bs qs) in
      let W : ℕ → Type 0 = λ r. AllByRecursion (λ t. IsTermWithin k mul elements w t bound) (times_bits mul r bs qs) in
      let first = block_within i b qs (omega (arith, most)) wide parts (all_front (IsTerm k) block rest terms) (all_front (λ t. t.1 ≢ 0) block rest some) in
      let more = all_within (suc i) bs qs (omega (arith, most)) wide parts (subst T (next_rank k w i) (all_end (IsTerm k) block rest terms)) (subst N (next_rank k w i) (all_end (λ t. t.1 ≢ 0) block rest some)) in
      all_append (λ t. IsTermWithin k mul elements w t bound) block rest first (subst W (sym (next_rank k w i)) more)

-- ---- all terms

module _ {k : ℕ} {mul : ℕ → ℕ → ℕ} (f : IsField k mul) where
  -- elements whose products are not 0 are not 0
  some_elements : (rank : ℕ) (bs : List ℕ) (q : Monomial × ℕ) (qs : Terms) → IsElement k q.1 → AllByRecursion (IsElement k) bs → AllByRecursion (λ t. t.1 ≢ 0) (times_bits mul rank bs (q ∷ qs)) → AllByRecursion (λ b. IsElement k b × (b ≢ 0)) bs
  some_elements rank [] q qs at all some = tt
  some_elements rank (b ∷ bs) q qs at all some =
      ((all.0, λ none. some.0 (ap (λ n. mul n q.1) none ∙ product_zero f q.1 at)), some_elements (rank + 1) bs q qs at all.1 (all_end (λ t. t.1 ≢ 0) (map (with_first mul rank b) qs) (times_bits mul (rank + 1) bs (q ∷ qs)) some.1))

  module _ (w : ℕ) (inside : w < 8) where
    one_power_is : (c : ℕ) → IsElement k c → c ≢ 0 → IsUnivariate k ((1, c) ∷ [])
    one_power_is c at some = one_power k (1, c) (record { exponent = one_element f; element = at; some = some })

    word_groups : (qs : Terms) → AllByRecursion (IsPart w k) qs → AllByRecursion (IsGroup w k) (times_word qs)
    word_groups [] all = tt
    word_groups (q ∷ qs) all = (record { rest = all.0.rest; powers = one_power_is q.1 all.0.element all.0.some }, word_groups qs all.1)

    word_total : (qs : Terms) → total (times_word qs) ≡ length qs
    word_total [] = refl
    word_total (q ∷ qs) = omega (arith, word_total qs)

    one_value : (c x : ℕ) → IsElement k c → IsElement k x → value_of mul x ((1, c) ∷ []) ≡ mul c x
    unfolding power
    one_value c x hc hx = xor_zero_r (mul c (mul x 1)) ∙ ap (mul c) (f.comm x 1 hx (one_element f) ∙ f.neutral x hx)

    word_value : (qs : Terms) → AllByRecursion (IsPart w k) qs → (p : Point) → IsPoint k p → value mul p (all_terms w (times_word qs)) ≡ mul (slice_index p.words w) (value mul p qs)
    word_value [] all p at = sym (product_by_zero f (slice_index p.words w) (word_element f p w at inside))
    word_value (q ∷ qs) all p at =
        let x = slice_index p.words w in
        let hx = word_element f p w at inside in
        let r = powers mul q.0.exponents p.words in
        let hr = powers_element f q.0.exponents p.words at.elements in
        let chosen : (b : Bool) → IsElement k (cond b (mul q.1 r) 0) = λ b. elim b as (λ c. IsElement k (cond c (mul q.1 r) 0)) [ true ↦ f.closed q.1 r all.0.element hr | false ↦ zero_element f ] in
        xor_sum-append (term_value mul p) (spread w q.0 ((1, q.1) ∷ [])) (all_terms w (times_word qs))
        ∙ ((λ i. bit_xor
        ((spread_value f w inside p q.0 ((1, q.1) ∷ []) at all.0.rest (one_power_is q.1 all.0.element all.0.some).powers
        ∙ (ap (λ n. cond (list_all p.is_one q.0.bits) (mul n r) 0) (one_value q.1 x all.0.element hx)
        ∙ moved f (list_all p.is_one q.0.bits) q.1 x r all.0.element hx hr)) i)
        (word_value qs all.1 p at i))
        ∙ sym (distrib_right f x (term_value mul p q) (value mul p qs) hx (chosen (list_all p.is_one q.0.bits)) (part_value f w inside p at qs all.1)))

    module _ (elements : List ℕ) (size : length elements ≡ k) (in_field : AllByRecursion (IsElement k) elements) (forms : List Powers) (are_forms : AreForms k mul elements forms) (bound : ℕ) (parts : Terms) (all : AllByRecursion (IsPart w k) parts) where
      first_rank : k * w + 0 ≡ k * w
      first_rank = add-zero (k * w)

      -- the terms are the parts times the bits of the word
      pub read_blocks : (ts : Terms) → AllByRecursion (λ b. IsElement k b × (b ≢ 0)) elements → IsReduced k (times_bits mul (k * w + 0) elements parts) → 1 ≤ length (times_bits mul (k * w + 0) elements parts) → length (times_bits mul (k * w + 0) elements parts) ≤ bound
          → ts ≡ plus text_cmp [] (all_terms w (times_word parts)) → IsReadAtOnce k mul elements w (times_bits mul (k * w + 0) elements parts) bound ts
      read_blocks ts some reduced least most made =
          let terms = times_bits mul (k * w + 0) elements parts in
          let P : Terms → Type 0 = IsReadAtOnce k mul elements w terms bound in
          let Q : Terms → Type 0 = λ us. (p : Point) (d : ℕ) → IsPoint k p → AreBits elements (slice_index p.words w) d → value mul p (plus text_cmp [] (all_terms w (times_word parts))) ≡ value mul (with_word k w d p) us in
          let are = word_groups parts all in
          let many = bits_length mul (k * w + 0) elements parts in
          let rooms : room k parts ≡ length terms = room_is k parts ∙ mul_comm (length parts) k ∙ ap (λ n. n * length parts) (sym size) ∙ sym many in
          let wide : k ≤ bound = omega (arith, some_room parts (omega (arith, rooms, least)), rooms, most) in
          let few : length parts ≤ bound = omega (arith, parts_few parts, rooms, most) in
          subst P (sym made) (record {
            sum = record {
              reduced = gathered_reduced f (all_terms w (times_word parts)) (groups_terms w k inside (times_word parts) are) (groups_nonzero w k inside (times_word parts) are);
              values = subst Q (sym (take-length terms)) (λ p d at bits.
                  gathered_value f p at (all_terms w (times_word parts)) (groups_terms w k inside (times_word parts) are)
                  ∙ (word_value parts all p at
                  ∙ (ap (λ x. mul x (value mul p parts)) (sym bits.is) ∙ sym (bits_value f w inside 0 elements parts d (omega (arith, size)) some all p d at (λ j. let up : 0 + j ≡ j = omega arith in ap (bit_at d) up)))));
            };
            small = omega (arith, plus_few [] (all_terms w (times_word parts)), total_length w k inside (times_word parts), word_total parts, few);
            within = record {
              products = λ i t less got. all_at (λ u. IsTermWithin k mul elements w u bound) terms i t (all_within f elements w inside forms are_forms bound 0 elements parts (omega (arith, size)) wide all reduced.terms reduced.is_map.nonzero) got;
              sums = λ s first last. sum_within s some (omega (arith, rooms, most));
            };
            quiet = terms_quiet f elements w forms are_forms (2 ^ k) (omega arith) inside terms reduced.terms reduced.is_map.nonzero;
          })
        where
          some_room : (qs : Terms) → 1 ≤ room k qs → k ≤ room k qs
          some_room [] more = absurd (omega arith)
          some_room (q ∷ qs) more = omega arith

          parts_few : (qs : Terms) → length qs ≤ room k qs
          parts_few [] = omega arith
          parts_few (q ∷ qs) = omega (arith, parts_few qs, f.least)

          sum_within : (s : ℕ) → AllByRecursion (λ b. IsElement k b × (b ≢ 0)) elements → room k parts ≤ bound → HasWithin k mul elements w (sum_at k mul w (times_bits mul (k * w + 0) elements parts) s) bound
          sum_within s nonzero enough =
              let has : HasGroups f w inside elements parts [] (take s (times_bits mul (k * w + 0) elements parts)) = first_groups f w inside elements forms are_forms parts all 0 elements [] s (omega (arith, size)) nonzero (no_powers k) tt in
              record {
                terms = plus text_cmp [] (all_terms w has.groups);
                is = record {
                  reduced = gathered_reduced f (all_terms w has.groups) (groups_terms w k inside has.groups has.are) (groups_nonzero w k inside has.groups has.are);
                  values = λ p d at bits.
                      let rest = value mul (with_word k w d p) (take s (times_bits mul (k * w + 0) elements parts)) in
                      gathered_value f p at (all_terms w has.groups) (groups_terms w k inside has.groups has.are)
                      ∙ (has.values p d at bits
                      ∙ (ap (λ n. bit_xor n rest) (product_zero f (value mul p parts) (part_value f w inside p at parts all)) ∙ xor_zero_l rest));
                };
                within = omega (arith, plus_few [] (all_terms w has.groups), total_length w k inside has.groups, has.few, enough);
              }

      pub whole_read : (terms ts : Terms) → terms ≡ times_bits mul (k * w) elements parts → IsReduced k terms → 1 ≤ length terms → length terms ≤ bound → ts ≡ plus text_cmp [] (all_terms w (times_word parts)) → IsReadAtOnce k mul elements w terms bound ts
      whole_read terms ts is reduced least most made =
          let same : terms ≡ times_bits mul (k * w + 0) elements parts = is ∙ ap (λ r. times_bits mul r elements parts) (sym first_rank) in
          let R : Terms → Type 0 = λ us. IsReduced k us × (1 ≤ length us) × (length us ≤ bound) in
          let P : Terms → Type 0 = λ us. IsReadAtOnce k mul elements w us bound ts in
          let has = subst R same (reduced, least, most) in
          subst P (sym same) (read_blocks ts (nonzero parts all has.0.is_map.nonzero has.1) has.0 has.1 has.2 made)
        where
          no_terms : (rank : ℕ) (bs : List ℕ) → times_bits mul rank bs [] ≡ []
          no_terms rank [] = refl
          no_terms rank (b ∷ bs) = no_terms (rank + 1) bs

          nonzero : (qs : Terms) → AllByRecursion (IsPart w k) qs → AllByRecursion (λ t. t.1 ≢ 0) (times_bits mul (k * w + 0) elements qs) → 1 ≤ length (times_bits mul (k * w + 0) elements qs) → AllByRecursion (λ b. IsElement k b × (b ≢ 0)) elements
          nonzero [] are some more = absurd (omega (arith, more, ap length (no_terms (k * w + 0) elements)))
          nonzero (q ∷ qs) are some more = some_elements (k * w + 0) elements q qs are.0.element in_field some
