-- A term whose first bit is its only one of the word: the pair of that bit is the bit and the term without it.
use Rattle.std.proofs.Common.{◌≡◌, ◌≢◌, ◌∙◌, ap, sym, refl, subst, ℕ, ◌<◌, ◌≤◌, ◌+◌, ◌-◌, ◌*◌, ◌==◌, ◌&&◌, Bool, true, false, cond, not, List, [], ◌∷◌, ◌++◌, length, take, drop, get_or, Option, None, Some, arith}
use Rattle.std.specs.Prelude.{slice_get}
use Rattle.std.specs.Int.{bit_at}
use Rattle.std.specs.Int.Bits.{xor_zero_r}
use Rattle.std.proofs.lemmas.Bool.{ne_eqb}
use Rattle.std.specs.List.{AllByRecursion, filter, list_all}
use Rattle.std.specs.List.Sorted.{IsStrictlySortedBy}
use Rattle.std.specs.Ordering.{nat_cmp}
use Rattle.poly_mixed.specs.Monomial.{Monomial}
use Rattle.poly_mixed.specs.Polynomial.{Terms, Point, IsTerm, powers, term_value}
use Rattle.poly_mixed.specs.Sum.{with_coefficient}
use Rattle.poly_mixed.specs.Steps.{Step, Tells}
use Rattle.poly_mixed.specs.declared.steps.Generator.TheVariants.{Bit}
use Rattle.poly_mixed.proofs.FieldLaws.{IsField}
use Rattle.poly_mixed.proofs.ProductLemmas.{one_term}
use Rattle.stage_model.specs.WordStage.{is_of_word, word_bits, with_word}
use Rattle.stage_model.specs.PlainWord.{IsProductOf}
use Rattle.stage_model.proofs.WordPolyLemmas.{filter_passes}
use Rattle.word_subst.specs.Multiplier.{IsWithBits}
use Rattle.word_subst.specs.ReadSteps.{TellsFirst, TellsTerms}
use Rattle.word_subst.specs.Whole.{HasFirst}
use Rattle.word_subst.proofs.Telling.{TellsMultiplier}
use Rattle.word_subst.proofs.OneTermLemmas.{none_told, one_told, bit_place}
use Rattle.word_subst.proofs.RisingLemmas.{drop_rises, rest_is}

-- where nothing passes, nothing holds
pub none_passes : (p : ℕ → Bool) (xs : List ℕ) → filter p xs ≡ [] → AllByRecursion (λ x. p x ≡ false) xs
none_passes p [] none = tt
none_passes p (x ∷ xs) none = elim (p x) as (λ b. p x ≡ b → cond b (x ∷ filter p xs) (filter p xs) ≡ [] → (p x ≡ false) × AllByRecursion (λ x. p x ≡ false) xs) [
  | true ↦ λ e some. absurd (omega (arith, ap length some))
  | false ↦ λ e rest. (e, none_passes p xs rest)
] refl none

-- ---- ranks of which none but the first is the word's

module _ (k w : ℕ) where
  no_own : (rs : List ℕ) → AllByRecursion (λ r. is_of_word k w r ≡ false) rs → filter (is_of_word k w) rs ≡ []
  no_own [] all = refl
  no_own (r ∷ rs) all = (λ i. cond (all.0 i) (r ∷ filter (is_of_word k w) rs) (filter (is_of_word k w) rs)) ∙ no_own rs all.1

  pub one_own : (rank : ℕ) (rs : List ℕ) → is_of_word k w rank ≡ true → AllByRecursion (λ r. is_of_word k w r ≡ false) rs → filter (is_of_word k w) (rank ∷ rs) ≡ rank ∷ []
  one_own rank rs own all = (λ i. cond (own i) (rank ∷ filter (is_of_word k w) rs) (filter (is_of_word k w) rs)) ∙ ap (λ xs. rank ∷ xs) (no_own rs all)

  all_stay : (rs : List ℕ) → AllByRecursion (λ r. is_of_word k w r ≡ false) rs → filter (λ r. not (is_of_word k w r)) rs ≡ rs
  all_stay [] all = refl
  all_stay (r ∷ rs) all = (λ i. cond (not (all.0 i)) (r ∷ filter (λ x. not (is_of_word k w x)) rs) (filter (λ x. not (is_of_word k w x)) rs)) ∙ ap (λ xs. r ∷ xs) (all_stay rs all.1)

  one_goes : (rank : ℕ) (rs : List ℕ) → is_of_word k w rank ≡ true → AllByRecursion (λ r. is_of_word k w r ≡ false) rs → filter (λ r. not (is_of_word k w r)) (rank ∷ rs) ≡ rs
  one_goes rank rs own all = (λ i. cond (not (own i)) (rank ∷ filter (λ x. not (is_of_word k w x)) rs) (filter (λ x. not (is_of_word k w x)) rs)) ∙ all_stay rs all

  pub other_tests : (d : ℕ) (p : Point) (rs : List ℕ) → AllByRecursion (λ r. is_of_word k w r ≡ false) rs → list_all (with_word k w d p).is_one rs ≡ list_all p.is_one rs
  other_tests d p [] all = refl
  other_tests d p (r ∷ rs) all = λ i. cond (all.0 i) (bit_at d (r - k * w) == 1) (p.is_one r) && other_tests d p rs all.1 i

  -- ---- a term with one bit of the word, which is its first bit

  -- where the first of a term's bits is all that it has of the word
  pub only_first : (t : Monomial × ℕ) (b : ℕ) (bs : List ℕ) → t.0.bits ≡ b ∷ bs → word_bits k w t ≡ b ∷ [] → HasFirst w k t
  only_first t b bs bits only =
      let P : List ℕ → Type 0 = λ rs. slice_get rs 0 ≡ Some b in
      let own : is_of_word k w b ≡ true = filter_passes (is_of_word k w) t.0.bits 0 b (subst P (sym only) refl) in
      let kept : b ∷ filter (is_of_word k w) bs ≡ b ∷ [] = sym (λ i. cond (own i) (b ∷ filter (is_of_word k w) bs) (filter (is_of_word k w) bs)) ∙ (sym (ap (filter (is_of_word k w)) bits) ∙ only) in
      record { rank = b; rest = bs; bits = bits; own = own; others = none_passes (is_of_word k w) bs (ap (drop 1) kept) }

  pub only_of : (t : Monomial × ℕ) (bits own : List ℕ) → bits ≡ t.0.bits → own ≡ word_bits k w t → length own ≡ 1 → 1 ≤ length bits → get_or bits 0 0 ≡ get_or own 0 0 → HasFirst w k t
  only_of t [] own bits_are own_are one some same = absurd (omega arith)
  only_of t (b ∷ bs) [] bits_are own_are one some same = absurd (omega arith)
  only_of t (b ∷ bs) (x ∷ y ∷ ys) bits_are own_are one some same = absurd (omega arith)
  only_of t (b ∷ bs) (x ∷ []) bits_are own_are one some same = only_first t b bs (sym bits_are) (sym own_are ∙ ap (λ z. z ∷ []) (sym same))

-- ---- the pair

module _ {k : ℕ} {mul : ℕ → ℕ → ℕ} (f : IsField k mul) (elements : List ℕ) (w : ℕ) where
  module _ (t : Monomial × ℕ) (is : IsTerm k t) (some : t.1 ≢ 0) (first : HasFirst w k t) where
    -- the term without its first bit
    abbrev without_first : Terms
    without_first = (record { exponents = t.0.exponents; bits = first.rest }, t.1) ∷ []

    own_is : word_bits k w t ≡ first.rank ∷ []
    own_is = ap (filter (is_of_word k w)) first.bits ∙ one_own k w first.rank first.rest first.own first.others

    others_are : filter (λ r. not (is_of_word k w r)) t.0.bits ≡ first.rest
    others_are = ap (filter (λ r. not (is_of_word k w r))) first.bits ∙ one_goes k w first.rank first.rest first.own first.others

    -- the rest rises
    pub rest_rises : IsStrictlySortedBy nat_cmp first.rest
    rest_rises =
        let P : List ℕ → Type 0 = λ rs. IsStrictlySortedBy nat_cmp (drop 1 rs) in
        subst P first.bits (drop_rises 1 t.0.bits is.monomial.rising)

    pub rest_is_term : IsTerm k (record { exponents = t.0.exponents; bits = first.rest }, t.1)
    rest_is_term = record { monomial = record { words = is.monomial.words; exponents = is.monomial.exponents; rising = rest_rises }; element = is.element }

    no_bits_read : IsProductOf k mul elements w t 0 without_first
    no_bits_read = record {
      reduced = one_term f (record { exponents = t.0.exponents; bits = first.rest }) t.1 rest_is_term some;
      values = λ p d at bits.
          let x : ℕ = mul t.1 (powers mul t.0.exponents p.words) in
          xor_zero_r (term_value mul p (record { exponents = t.0.exponents; bits = first.rest }, t.1))
          ∙ ap (λ b. cond b x 0) (sym (other_tests k w d p first.rest first.others) ∙ ap (list_all (with_word k w d p).is_one) (sym others_are));
    }

    pub first_told : (place : ℕ) (ts : Terms) (old new : Option (List Step)) → place ≡ first.rank - k * w → ts ≡ without_first → Tells old new ((Bit w place, ts) ∷ []) → TellsFirst k mul elements w t (length (word_bits k w t)) old new
    first_told place ts old new place_is made told =
        let P : ℕ → Type 0 = λ n. TellsFirst k mul elements w t n old new in
        let Q : List ℕ → Type 0 = λ rs. slice_get rs 0 ≡ Some first.rank in
        let R : Terms → Type 0 = λ us. Tells old new ((Bit w place, us) ∷ []) in
        let with_none : IsWithBits k mul without_first [] without_first = record { reduced = no_bits_read.reduced; values = λ p at. refl } in
        let tells : TellsMultiplier k mul without_first [] (Bit w place) old new = record { multiplier = without_first; is = with_none; told = subst R made told } in
        let one : 0 + 1 ≡ length (word_bits k w t) = omega (arith, ap length own_is) in
        subst P one (one_told k w t mul elements 0 0 first.rank place without_first [] old old new is (subst Q (sym own_is) refl) place_is (sym (ap (drop 1) own_is)) no_bits_read (none_told k w t mul elements 0 old) tells)

    -- ---- as the code makes it

    pub made_rest : (bits exponents : List ℕ) (m : Monomial) → bits ≡ t.0.bits → exponents ≡ t.0.exponents → m ≡ record { exponents = exponents; bits = take (length bits - 1) (drop 1 bits) } → m ≡ record { exponents = t.0.exponents; bits = first.rest }
    made_rest bits exponents m bits_are exponents_are made =
        let rest : take (length bits - 1) (drop 1 bits) ≡ first.rest = rest_is 1 bits ∙ ap (drop 1) (bits_are ∙ first.bits) in
        made ∙ (λ i. record { exponents = exponents_are i; bits = rest i })

    pub made_term : (m : Monomial) (c : ℕ) → m ≡ record { exponents = t.0.exponents; bits = first.rest } → c ≡ t.1 → IsTerm k (m, c)
    made_term m c m_is c_is =
        let P : Monomial → Type 0 = λ n. IsTerm k (n, c) in
        let Q : ℕ → Type 0 = λ x. IsTerm k (record { exponents = t.0.exponents; bits = first.rest }, x) in
        subst P (sym m_is) (subst Q (sym c_is) rest_is_term)

    pub made_first : (m : Monomial) (c : ℕ) (ts : Terms) → m ≡ record { exponents = t.0.exponents; bits = first.rest } → c ≡ t.1 → ts ≡ with_coefficient m c [] → ts ≡ without_first
    made_first m c ts m_is c_is made =
        made ∙ ((λ i. with_coefficient (m_is i) (c_is i) []) ∙ ap (λ b. cond b [] without_first) (ne_eqb t.1 0 some))

    -- the place of the first bit
    pub first_place : (k * w ≤ first.rank) × (first.rank - k * w < k)
    first_place =
        let Q : List ℕ → Type 0 = λ rs. slice_get rs 0 ≡ Some first.rank in
        let place = bit_place k w t 0 first.rank (subst Q (sym own_is) refl) in
        (place.0, place.1)

  -- where nobody asks for the pairs, they are there all the same
  pub firsts_quiet : (ts : Terms) → AllByRecursion (IsTerm k) ts → AllByRecursion (λ t. t.1 ≢ 0) ts → AllByRecursion (HasFirst w k) ts → TellsTerms k mul elements w ts None None
  firsts_quiet [] is some firsts = record { steps = []; are = refl; told = tt }
  firsts_quiet (t ∷ ts) is some firsts =
      let first = first_told t is.0 some.0 firsts.0 (firsts.0.rank - k * w) (without_first t is.0 some.0 firsts.0) None None refl refl tt in
      let rest = firsts_quiet ts is.1 some.1 firsts.1 in
      record { steps = first.steps ++ rest.steps; are = (first.steps, rest.steps, first.are, rest.are, refl); told = tt }

  pub all_quiet_firsts : (ts : Terms) (old : Option (List Step)) → AllByRecursion (IsTerm k) ts → AllByRecursion (λ t. t.1 ≢ 0) ts → AllByRecursion (HasFirst w k) ts → old ≡ None → TellsTerms k mul elements w ts old old
  all_quiet_firsts ts old is some firsts none =
      let P : Option (List Step) → Type 0 = λ o. TellsTerms k mul elements w ts o o in
      subst P (sym none) (firsts_quiet ts is some firsts)
