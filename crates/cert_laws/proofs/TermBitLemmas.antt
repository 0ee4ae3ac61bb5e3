-- A term with its first bits of a word read from a number, and its other bits of the word as they stand.
use Rattle.std.proofs.Common.{◌≡◌, ◌∙◌, ap, sym, refl, subst, ℕ, suc, ◌+◌, ◌-◌, ◌*◌, ◌/◌, ◌%◌, ◌^◌, ◌<◌, ◌==◌, ◌&&◌, nat_lt, Bool, true, false, cond, not, List, [], ◌∷◌, ◌++◌, length, take, drop, get_or, map, Some, slice_get, arith}
use Rattle.std.specs.Int.{bit_at}
use Rattle.std.specs.List.{list_all, filter, range_with_len}
use Rattle.std.proofs.lemmas.Bool.{lt-ltb, le-ltb}
use Rattle.std.proofs.lemmas.List.FromFn.{get_or-map-range_with_len}
use Rattle.std.proofs.lemmas.List.Folds.{list_all-append}
use Rattle.std.proofs.lemmas.Option.{get_or_from_slice_get}
use Rattle.std.proofs.Math.Seq.{take-length}
use Rattle.lists.specs.laws.BoolLaws.{and_into, and_swap}
use Rattle.lists.specs.laws.NumberLaws.{bit_is_choice}
use Rattle.lists.specs.laws.TakeLaws.{dropped_at, taken_next}
use Rattle.gf_field.specs.Field.{HasNoZeroDivisors}
use Rattle.gf_field.specs.Ring.{IsRing}
use Rattle.gf_field.specs.Trace.{frobenius}
use Rattle.gf_basis.specs.Basis.{AreBits}
use Rattle.gf_basis.specs.BasisParts.{elements_of, duals_of, IsBasisOver}
use Rattle.gf_basis.specs.Dual.{linear_value}
use Rattle.gf_basis.specs.declared.bases.Basis.{Basis}
use Rattle.gf_basis.proofs.BasisLaws.{linear_bit}
use Rattle.net_words.specs.Binding.{BoundNet}
use Rattle.poly_mixed.specs.Cofactor.{without_bit}
use Rattle.poly_mixed.specs.Monomial.{Monomial}
use Rattle.poly_mixed.specs.Polynomial.{Point, IsTerm, powers, term_value}
use Rattle.circuit_model.specs.Bases.{AreBases, circuit_in}
use Rattle.circuit_model.specs.Word.{Word}
use Rattle.stage_model.specs.WordStage.{is_of_word, word_bits, first_bits, with_word, IsRead}
use Rattle.stage_model.specs.WordSteps.{with_word_below}
use Rattle.stage_model.proofs.WordPolyLemmas.{filter_passes}
use Rattle.cert_check.specs.Running.{dual_form, dual_at, dual_words}
use Rattle.cert_check.proofs.SoundLemmas.{both}
use Rattle.gf_field.proofs.SharedLemmas.{same_sum}
use Rattle.poly_mixed.proofs.AroundLemmas.{all_around}

-- ---- lists of bits

split_all : (q g : ℕ → Bool) (xs : List ℕ) → list_all q xs ≡ (list_all q (filter g xs) && list_all q (filter (λ x. not (g x)) xs))
split_all q g [] = refl
split_all q g (x ∷ xs) =
    ap (λ b. q x && b) (split_all q g xs)
    ∙ (elim (g x) as (λ v. (q x && (list_all q (filter g xs) && list_all q (filter (λ x. not (g x)) xs))) ≡ (list_all q (cond v (x ∷ filter g xs) (filter g xs)) && list_all q (cond (not v) (x ∷ filter (λ x. not (g x)) xs) (filter (λ x. not (g x)) xs)))) [
      | true ↦ and_into (q x) (list_all q (filter g xs)) (list_all q (filter (λ x. not (g x)) xs))
      | false ↦ and_swap (q x) (list_all q (filter g xs)) (list_all q (filter (λ x. not (g x)) xs))
    ])

same_others : (q low : ℕ → Bool) (g : ℕ → Bool) → ((x : ℕ) → g x ≡ false → q x ≡ low x) → (xs : List ℕ) → list_all q (filter (λ x. not (g x)) xs) ≡ list_all low (filter (λ x. not (g x)) xs)
same_others q low g same [] = refl
same_others q low g same (x ∷ xs) =
    (elim (g x) as (λ v. g x ≡ v → list_all q (cond (not v) (x ∷ filter (λ x. not (g x)) xs) (filter (λ x. not (g x)) xs)) ≡ list_all low (cond (not v) (x ∷ filter (λ x. not (g x)) xs) (filter (λ x. not (g x)) xs))) [
      | true ↦ λ e. same_others q low g same xs
      | false ↦ λ e. λ i. same x e i && same_others q low g same xs i
    ]) refl

module _ (k : ℕ) (mul : ℕ → ℕ → ℕ) (w : ℕ) (t : Monomial × ℕ) where
  abbrev own : List ℕ
  own = word_bits k w t

  abbrev others : List ℕ
  others = filter (λ r. not (is_of_word k w r)) t.0.bits

  abbrev whole : Point → ℕ
  whole p = mul t.1 (powers mul t.0.exponents p.words)

  -- the term with its first j bits of the word read from d, and the others as they stand
  abbrev pub mixed : ℕ → ℕ → Point → ℕ
  mixed j d p = cond (list_all p.is_one (drop j (word_bits k w t))) (term_value mul (with_word k w d p) (first_bits k w j t)) 0

  other_bit : (d : ℕ) (p : Point) (x : ℕ) → is_of_word k w x ≡ false → (with_word k w d p).is_one x ≡ p.is_one x
  other_bit d p x e = ap (λ b. cond b (bit_at d (x - k * w) == 1) (p.is_one x)) e

  -- where no bit is read, it is the term
  pub none_read : (d : ℕ) (p : Point) → term_value mul p t ≡ mixed 0 d p
  none_read d p =
      ap (λ b. cond b (whole p) 0) (split_all p.is_one (is_of_word k w) t.0.bits ∙ ap (λ b. list_all p.is_one own && b) (sym (same_others (with_word k w d p).is_one p.is_one (is_of_word k w) (other_bit d p) t.0.bits)))
      ∙ nested (list_all p.is_one own) (list_all (with_word k w d p).is_one others) (whole p)
    where
      nested : (a b : Bool) (x : ℕ) → cond (a && b) x 0 ≡ cond a (cond b x 0) 0
      nested true b x = refl
      nested false b x = refl

  -- where all are read, it is the term at the point with the word's bits
  pub all_read : (d : ℕ) (p : Point) → mixed (length (word_bits k w t)) d p ≡ term_value mul (with_word k w d p) t
  all_read d p =
      let low : ℕ → Bool = (with_word k w d p).is_one in
      ap (λ (xs : List ℕ). cond (list_all p.is_one xs) (term_value mul (with_word k w d p) (first_bits k w (length own) t)) 0) (drop_all own)
      ∙ ap (λ (xs : List ℕ). cond (list_all low (xs ++ others)) (whole p) 0) (take-length own)
      ∙ ap (λ b. cond b (whole p) 0) (list_all-append low own others ∙ sym (split_all low (is_of_word k w) t.0.bits))
    where
      drop_all : (xs : List ℕ) → drop (length xs) xs ≡ []
      drop_all [] = refl
      drop_all (x ∷ xs) = drop_all xs

  module _ (is : IsTerm k t) (j place d : ℕ) (p : Point) (at : slice_get (word_bits k w t) j ≡ Some (k * w + place)) where
    abbrev u : ℕ
    u = k * w + place

    -- the multiplier of bit j
    abbrev pub multiplier : ℕ
    multiplier = term_value mul (with_word_below k w (k * w + place) d p) (without_bit (k * w + place) t.0, t.1)

    low : ℕ → Bool
    low = (with_word k w d p).is_one

    parts : Bool
    parts = (list_all low (take j own) && list_all low others) && list_all p.is_one (drop (suc j) own)

    own_is : is_of_word k w u ≡ true
    own_is = filter_passes (is_of_word k w) t.0.bits j u at

    multiplier_parts : multiplier ≡ cond parts (whole p) 0
    unfolding low parts
    multiplier_parts =
        ap (λ b. cond b (whole p) 0)
        (all_around (is_of_word k w) (with_word_below k w u d p).is_one low p.is_one u own_is
        (λ x e less. (λ i. cond (e i && lt-ltb x u less i) (bit_at d (x - k * w) == 1) (p.is_one x)) ∙ sym (ap (λ b. cond b (bit_at d (x - k * w) == 1) (p.is_one x)) e))
        (λ x e more. (λ i. cond (e i && le-ltb x u (omega (arith, more)) i) (bit_at d (x - k * w) == 1) (p.is_one x)))
        (λ x e. (λ i. cond (e i && nat_lt x u) (bit_at d (x - k * w) == 1) (p.is_one x)) ∙ sym (ap (λ b. cond b (bit_at d (x - k * w) == 1) (p.is_one x)) e))
        t.0.bits j is.monomial.rising at)

    -- bit j as it stands
    pub before_bit : mixed j d p ≡ cond (p.is_one (k * w + place)) multiplier 0
    unfolding low parts
    before_bit =
        ap (λ (xs : List ℕ). cond (list_all p.is_one xs) (cond (list_all low (take j own ++ others)) (whole p) 0) 0) (dropped_at own j u at)
        ∙ ap (λ b. cond (p.is_one u && list_all p.is_one (drop (suc j) own)) (cond b (whole p) 0) 0) (list_all-append low (take j own) others)
        ∙ turned (p.is_one u) (list_all p.is_one (drop (suc j) own)) (list_all low (take j own) && list_all low others) (whole p)
        ∙ ap (λ x. cond (p.is_one u) x 0) (sym multiplier_parts)
      where
        turned : (a b c : Bool) (x : ℕ) → cond (a && b) (cond c x 0) 0 ≡ cond a (cond (c && b) x 0) 0
        turned true true true x = refl
        turned true true false x = refl
        turned true false true x = refl
        turned true false false x = refl
        turned false b c x = refl

    -- bit j read
    pub after_bit : mixed (suc j) d p ≡ cond (bit_at d place == 1) multiplier 0
    unfolding low parts
    after_bit =
        ap (λ (xs : List ℕ). cond (list_all p.is_one (drop (suc j) own)) (cond (list_all low (xs ++ others)) (whole p) 0) 0) (taken_next own j u at)
        ∙ ap (λ b. cond (list_all p.is_one (drop (suc j) own)) (cond b (whole p) 0) 0) (list_all-append low (take j own ++ u ∷ []) others ∙ ap (λ b. b && list_all low others) (list_all-append low (take j own) (u ∷ [])))
        ∙ turned (list_all low (take j own)) (low u) (list_all low others) (list_all p.is_one (drop (suc j) own)) (whole p)
        ∙ (λ i. cond (read i) (sym multiplier_parts i) 0)
      where
        turned : (a b c d : Bool) (x : ℕ) → cond d (cond ((a && (b && true)) && c) x 0) 0 ≡ cond b (cond ((a && c) && d) x 0) 0
        turned true true true true x = refl
        turned true true true false x = refl
        turned true true false true x = refl
        turned true true false false x = refl
        turned true false true true x = refl
        turned true false true false x = refl
        turned true false false true x = refl
        turned true false false false x = refl
        turned false true true true x = refl
        turned false true true false x = refl
        turned false true false true x = refl
        turned false true false false x = refl
        turned false false true true x = refl
        turned false false true false x = refl
        turned false false false true x = refl
        turned false false false false x = refl

        place_is : u - k * w ≡ place
        place_is = omega arith

        read : low u ≡ (bit_at d place == 1)
        read = ap (λ b. cond b (bit_at d (u - k * w) == 1) (p.is_one u)) own_is ∙ ap (λ x. bit_at d x == 1) place_is

-- ---- the generator of a bit

bit_cond : (n i : ℕ) → bit_at n i ≡ cond (bit_at n i == 1) 1 0
bit_cond n i = bit_is_choice (bit_at n i) (let x : ℕ = n / 2 ^ i in below x)
  where
    below : (x : ℕ) → x % 2 < 2
    below x = omega arith

-- the linear form of a bit's generator gives the bit of the word's element
pub form_value : (k : ℕ) (mul : ℕ → ℕ → ℕ) (bound : BoundNet) (bases : List Basis) → IsRing k mul → HasNoZeroDivisors k mul → AreBases k mul bound bases → (w place d : ℕ) (p : Point) → IsRead (circuit_in k mul bound bases) w p d → place < k
    → w < length (dual_words bound bases) → dual_form k mul (dual_at (slice_get (dual_words bound bases) w) place) (get_or p.words w 0) ≡ cond (bit_at d place == 1) 1 0
form_value k mul bound bases ring field are w place d p read low less =
    let is = both bound.binding.words bases w are.long less in
    let over : IsBasisOver k mul is.basis = are.each is.basis is.has in
    let here : slice_get (circuit_in k mul bound bases).words w ≡ Some is.word = is.word_at in
    let there : slice_get (circuit_in k mul bound bases).words w ≡ Some read.word = read.at_word in
    let same : read.word ≡ is.word = cc in
    let P : Word → Type 0 = λ v. AreBits v.basis read.element d in
    let Q : List ℕ → Type 0 = λ elements. AreBits elements read.element d in
    let are_bits : AreBits (elements_of is.basis) read.element d = subst Q is.word_is (subst P same read.bits) in
    let e : ℕ = get_or (duals_of is.basis) place 0 in
    let cs : List ℕ = map (λ j. frobenius mul j e) (range_with_len 0 k) in
    let at_cs : (j : ℕ) → j < k → get_or cs j 0 ≡ frobenius mul j e = λ j h. get_or-map-range_with_len (λ j. frobenius mul j e) 0 k j j 0 h (omega arith) in
    let linear : linear_value k mul cs read.element ≡ bit_at d place = linear_bit k mul ring field (elements_of is.basis) (duals_of is.basis) over.elements.size over.dual place read.element d cs low at_cs are_bits in
    let form : dual_form k mul e read.element ≡ linear_value k mul cs read.element = same_sum k (λ j. mul (frobenius mul j e) (frobenius mul j read.element)) (λ j. mul (get_or cs j 0) (frobenius mul j read.element)) (λ j h. ap (λ c. mul c (frobenius mul j read.element)) (sym (at_cs j h))) in
    let own_x : get_or p.words w 0 ≡ read.element = get_or_from_slice_get p.words w read.element 0 read.at_point in
    let own_d : dual_at (slice_get (dual_words bound bases) w) place ≡ e = ap (λ o. dual_at o place) is.dual_at ∙ ap (λ ds. get_or ds place 0) is.dual_is in
    (λ j. dual_form k mul (own_d j) (own_x j)) ∙ form ∙ linear ∙ bit_cond d place
