-- Of each listing of a circuit's stages all are within a bound, or one is the first over it.
use Rattle.std.proofs.Common.{◌≡◌, ◌⊎◌, sym, refl, subst, inl, inr, ℕ, zero, suc, ◌<◌, ◌≤◌, ◌+◌, length, arith}
use Rattle.std.proofs.lemmas.Bool.{cases_lt}
use Rattle.circuit_model.specs.WellFormed.{IsWellFormed}
use Rattle.circuit_model.specs.Circuit.{Circuit}
use Rattle.poly_mixed.specs.Monomial.{Monomial}
use Rattle.poly_mixed.specs.Polynomial.{Point, Terms}
use Rattle.poly_mixed.specs.declared.stage.Stage.{Stage}
use Rattle.poly_mixed.specs.declared.stage.Stage.TheVariants.{Cut, WordProduct, WordSum, SpecProduct, SpecSum, InstanceProduct, InstanceSum}
use Rattle.stage_model.specs.Cut.{CutOf}
use Rattle.stage_model.specs.Mix.{IsMix}
use Rattle.stage_model.specs.Stage.{IsOfStage, IsWithin}
use Rattle.stage_model.specs.WordStage.{word_bits, IsTermOf, IsTermProduct, IsTermSum}
use Rattle.stage_model.specs.Listing.{is_first_cut, cut_of, is_earlier_cut, cut_listing, AreAllWithin, IsOver}
use Rattle.stage_model.specs.WordListing.{HasProduct, HasSum, IsEarlier, word_listing, is_word_stage, word_stage_of, is_earlier_word_stage}
use Rattle.stage_model.specs.CircuitListing.{circuit_cuts, circuit_stages}
use Rattle.stage_model.proofs.WordStageLemmas.{one_terms, one_term_of}
use Rattle.stage_model.proofs.SomeStageLemmas.{cut_polynomial, mix_polynomial, product_polynomial, sum_polynomial}
use Rattle.stage_model.proofs.SearchLemmas.{IsFirstOf, search, IsOverBound, measured, IsDecided, both_decided}
use Rattle.std.proofs.lemmas.Option.{slice_get_within}
use Rattle.std.specs.Prelude.{slice_get, Some}
use Rattle.lists.specs.laws.ReadLaws.{get_below}

size_of : (k : ℕ) (mul : ℕ → ℕ → ℕ) (stage : Point → ℕ → Type 0) (bound : ℕ) (found : (ts : Terms) × IsOfStage k mul stage ts) → IsWithin k mul stage bound ⊎ IsOverBound k mul stage bound
size_of k mul stage bound found = measured k mul stage bound (length found.0) (record { terms = found.0; is = found.1; size = refl })

module _ (k : ℕ) (mul : ℕ → ℕ → ℕ) (count : ℕ) (cuts : ℕ → Point → ℕ → Type 0) (bound : ℕ) where
  cuts_within : ((t : ℕ) → t < count → IsWithin k mul (cuts t) bound) → AreAllWithin k mul (cut_listing count cuts) bound
  cuts_within all (Cut t) is = all t is
  cuts_within all (WordProduct w s j) is = absurd is
  cuts_within all (WordSum w s) is = absurd is
  cuts_within all (SpecProduct s j) is = absurd is
  cuts_within all (SpecSum s) is = absurd is
  cuts_within all (InstanceProduct i s j) is = absurd is
  cuts_within all (InstanceSum i s) is = absurd is

  cut_before : (t : ℕ) → t < count → ((i : ℕ) → i < t → IsWithin k mul (cuts i) bound) → (name : Stage) → is_first_cut count cuts name → is_earlier_cut count cuts name (Cut t) → IsWithin k mul (cut_of count cuts name) bound
  cut_before t less all (Cut s) is low = all s low
  cut_before t less all (WordProduct w s j) is low = absurd is
  cut_before t less all (WordSum w s) is low = absurd is
  cut_before t less all (SpecProduct s j) is low = absurd is
  cut_before t less all (SpecSum s) is low = absurd is
  cut_before t less all (InstanceProduct i s j) is low = absurd is
  cut_before t less all (InstanceSum i s) is low = absurd is

  cuts_decided : ((t : ℕ) → t < count → (ts : Terms) × IsOfStage k mul (cuts t) ts) → IsDecided k mul (cut_listing count cuts) bound
  cuts_decided are =
      elim (search count (λ t. IsWithin k mul (cuts t) bound) (λ t. IsOverBound k mul (cuts t) bound) (λ t less. size_of k mul (cuts t) bound (are t less))) [
        | inl all ↦ inl (cuts_within all)
        | inr first ↦ inr (Cut first.at, first.is.size, record { listed = first.low; size = first.is.has; over = first.is.over; before = cut_before first.at first.low first.before })
      ]

module _ (c : Circuit) (well : IsWellFormed c) (bound : ℕ) where
  abbrev Fine : (Point → ℕ → Type 0) → Type 0
  Fine stage = IsWithin c.k c.product stage bound

  abbrev Over : (Point → ℕ → Type 0) → Type 0
  Over stage = IsOverBound c.k c.product stage bound

  abbrev ProductFine : ℕ → ℕ → ℕ → Type 0
  ProductFine w s j = HasProduct c w s j → Fine (IsTermProduct c w s j)

  -- the stages of term s of word w are within the bound
  record TermFine (w s : ℕ) : Type 0 where
    pub products : (j : ℕ) → ProductFine w s j
    pub sum : HasSum c w s → Fine (IsTermSum c w s)

  -- product j is the first over the bound
  record ProductOver (w s j : ℕ) : Type 0 where
    pub has : HasProduct c w s j
    pub over : Over (IsTermProduct c w s j)
    pub before : (i : ℕ) → i < j → ProductFine w s i

  -- the products are within it, and the sum is over it
  record SumOver (w s : ℕ) : Type 0 where
    pub has : HasSum c w s
    pub over : Over (IsTermSum c w s)
    pub before : (i : ℕ) → ProductFine w s i

  abbrev TermOver : ℕ → ℕ → Type 0
  TermOver w s = ((j : ℕ) × ProductOver w s j) ⊎ SumOver w s

  module _ (w s : ℕ) (low : w < length c.words) (term : Monomial × ℕ) (is : IsTermOf c w s term) where
    -- how many products the term has
    abbrev products : ℕ
    products = length (word_bits c.k w term)

    has_sum : HasSum c w s
    has_sum = record { word = low; term = term; is_term = is }

    past_products : (j : ℕ) → products < j → ProductFine w s j
    past_products j past has =
        let P : Monomial × ℕ → Type 0 = λ t. j ≤ length (word_bits c.k w t) in
        let less = subst P (one_term_of c well w s has.term term has.is_term is) has.bits in
        absurd (omega arith)

    one_product : (j : ℕ) → ProductFine w s j ⊎ (HasProduct c w s j × Over (IsTermProduct c w s j))
    one_product zero = inl (λ has. absurd (omega (arith, has.some)))
    one_product (suc j) =
        elim (cases_lt j products) [
          | inl less ↦
              let has : HasProduct c w s (suc j) = record { word = low; term = term; is_term = is; some = omega arith; bits = less } in
              elim (size_of c.k c.product (IsTermProduct c w s (suc j)) bound (product_polynomial c well w s (suc j) low term is)) [ inl fine ↦ inl (λ any. fine) | inr over ↦ inr (has, over) ]
          | inr past ↦ inl (past_products (suc j) (omega arith))
        ]

    term_decided : TermFine w s ⊎ TermOver w s
    term_decided =
        elim (search (suc products) (ProductFine w s) (λ j. HasProduct c w s j × Over (IsTermProduct c w s j)) (λ j less. one_product j)) [
          | inl all ↦
              let fine : (j : ℕ) → ProductFine w s j = λ j. elim (cases_lt j (suc products)) [ inl less ↦ all j less | inr past ↦ past_products j (omega arith) ] in
              elim (size_of c.k c.product (IsTermSum c w s) bound (sum_polynomial c well w s low is.terms is.before)) [
                | inl sum ↦ inl (record { products = fine; sum = λ has. sum })
                | inr over ↦ inr (inr (record { has = has_sum; over = over; before = fine }))
              ]
          | inr first ↦ inr (inl (first.at, record { has = first.is.0; over = first.is.1; before = first.before }))
        ]

  none_there : (w s : ℕ) → ((term : Monomial × ℕ) → IsTermOf c w s term → ⊥) → TermFine w s
  none_there w s none = record { products = λ j has. absurd (none has.term has.is_term); sum = λ has. absurd (none has.term has.is_term) }

  module _ (w : ℕ) (low : w < length c.words) (ts : Terms) (before : IsOfStage c.k c.product (IsMix c w) ts) where
    term_number : (s : ℕ) (term : Monomial × ℕ) → IsTermOf c w s term → 1 ≤ s × (s ≤ length ts)
    term_number s term is =
        let P : Terms → Type 0 = λ us. slice_get us is.place ≡ Some term in
        let at = subst P (one_terms c well w is.terms ts is.before before) is.at in
        let less = slice_get_within ts is.place term at in
        (omega (arith, is.number), omega (arith, less, is.number))

    one_term : (s : ℕ) → TermFine w s ⊎ TermOver w s
    one_term zero = inl (none_there w zero (λ term is. absurd (omega (arith, (term_number zero term is).0))))
    one_term (suc s) =
        elim (cases_lt s (length ts)) [
          | inl less ↦
              let got = get_below ts s less in
              term_decided w (suc s) low got.0 (record { terms = ts; before = before; place = s; number = omega arith; at = got.1 })
          | inr past ↦ inl (none_there w (suc s) (λ term is. absurd (omega (arith, past, (term_number (suc s) term is).1))))
        ]

    past_terms : (s : ℕ) → length ts < s → TermFine w s
    past_terms s past = none_there w s (λ term is. absurd (omega (arith, past, (term_number s term is).1)))

    word_decided : ((s : ℕ) → TermFine w s) ⊎ IsFirstOf (suc (length ts)) (TermFine w) (TermOver w)
    word_decided =
        elim (search (suc (length ts)) (TermFine w) (TermOver w) (λ s less. one_term s)) [
          | inl all ↦ inl (λ s. elim (cases_lt s (suc (length ts))) [ inl less ↦ all s less | inr past ↦ past_terms s (omega arith) ])
          | inr first ↦ inr first
        ]

  abbrev WordFine : ℕ → Type 0
  WordFine w = (s : ℕ) → TermFine w s

  -- term s is the first with a stage over the bound
  record WordOver (w : ℕ) : Type 0 where
    pub term : ℕ
    pub over : TermOver w term
    pub before : (r : ℕ) → r < term → TermFine w r

  one_word : (w : ℕ) → w < length c.words → WordFine w ⊎ WordOver w
  one_word w low =
      let found = mix_polynomial c well w (omega arith) in
      elim (word_decided w low found.0 found.1) [ inl all ↦ inl all | inr first ↦ inr (record { term = first.at; over = first.is; before = first.before }) ]

  words_within : ((w : ℕ) → w < length c.words → WordFine w) → AreAllWithin c.k c.product (word_listing c) bound
  words_within all (WordProduct w s j) is = (all w is.word s).products j is
  words_within all (WordSum w s) is = (all w is.word s).sum is
  words_within all (Cut t) is = absurd is
  words_within all (SpecProduct s j) is = absurd is
  words_within all (SpecSum s) is = absurd is
  words_within all (InstanceProduct i s j) is = absurd is
  words_within all (InstanceSum i s) is = absurd is

  -- where the words before w, and the terms of w before s, have their stages within the bound
  module _ (w s : ℕ) (words : (v : ℕ) → v < w → WordFine v) (terms : (r : ℕ) → r < s → TermFine w r) where
    product_before : (v r i : ℕ) (same : Type 0) → (same → ProductFine w s i) → IsEarlier v r w s same → ProductFine v r i
    product_before v r i same tie (inl low) = (words v low r).products i
    product_before v r i same tie (inr (e, inl low)) = let P : ℕ → Type 0 = λ u. ProductFine u r i in subst P (sym e) ((terms r low).products i)
    product_before v r i same tie (inr (e, inr (f, is))) =
        let P : ℕ → Type 0 = λ u. ProductFine u r i in
        let Q : ℕ → Type 0 = λ q. ProductFine w q i in
        subst P (sym e) (subst Q (sym f) (tie is))

    abbrev SumFine : ℕ → ℕ → Type 0
    SumFine v r = HasSum c v r → Fine (IsTermSum c v r)

    sum_before : (v r : ℕ) → IsEarlier v r w s ⊥ → SumFine v r
    sum_before v r (inl low) = (words v low r).sum
    sum_before v r (inr (e, inl low)) = let P : ℕ → Type 0 = λ u. SumFine u r in subst P (sym e) (terms r low).sum
    sum_before v r (inr (e, inr (f, none))) = absurd none

    before_product : (j : ℕ) → ((i : ℕ) → i < j → ProductFine w s i) → (name : Stage) → is_word_stage c name → is_earlier_word_stage name (WordProduct w s j) → Fine (word_stage_of c name)
    before_product j before (WordProduct v r i) is low = product_before v r i (i < j) (λ less. before i less) low is
    before_product j before (WordSum v r) is low = sum_before v r low is
    before_product j before (Cut t) is low = absurd is
    before_product j before (SpecProduct a b) is low = absurd is
    before_product j before (SpecSum a) is low = absurd is
    before_product j before (InstanceProduct a b d) is low = absurd is
    before_product j before (InstanceSum a b) is low = absurd is

    before_sum : ((i : ℕ) → ProductFine w s i) → (name : Stage) → is_word_stage c name → is_earlier_word_stage name (WordSum w s) → Fine (word_stage_of c name)
    before_sum before (WordProduct v r i) is low = product_before v r i (Unit {0}) (λ any. before i) low is
    before_sum before (WordSum v r) is low = sum_before v r low is
    before_sum before (Cut t) is low = absurd is
    before_sum before (SpecProduct a b) is low = absurd is
    before_sum before (SpecSum a) is low = absurd is
    before_sum before (InstanceProduct a b d) is low = absurd is
    before_sum before (InstanceSum a b) is low = absurd is

    first_over : TermOver w s → (name : Stage) × (n : ℕ) × IsOver c.k c.product (word_listing c) bound name n
    first_over (inl (j, x)) = (WordProduct w s j, x.over.size, record { listed = x.has; size = x.over.has; over = x.over.over; before = before_product j x.before })
    first_over (inr x) = (WordSum w s, x.over.size, record { listed = x.has; size = x.over.has; over = x.over.over; before = before_sum x.before })

  pub words_decided : IsDecided c.k c.product (word_listing c) bound
  words_decided =
      elim (search (length c.words) WordFine WordOver (λ w low. one_word w low)) [
        | inl all ↦ inl (words_within all)
        | inr first ↦ inr (first_over first.at first.is.term first.before first.is.before first.is.over)
      ]

  pub circuit_cuts_decided : IsDecided c.k c.product (circuit_cuts c) bound
  circuit_cuts_decided = cuts_decided c.k c.product (length c.net.gates + 1) (CutOf c) bound (λ t less. cut_polynomial c well t)

  pub stages_decided : IsDecided c.k c.product (circuit_stages c) bound
  stages_decided = both_decided c.k c.product (circuit_cuts c) (word_listing c) bound circuit_cuts_decided words_decided
