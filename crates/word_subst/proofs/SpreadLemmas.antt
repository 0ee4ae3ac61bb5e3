-- Terms that are gathered from polynomials in one word: their values and how many they are.
use Rattle.std.proofs.Common.{◌≡◌, ◌≢◌, ◌∙◌, ap, sym, refl, subst, ℕ, zero, suc, ◌<◌, ◌+◌, true, false, cond, List, [], ◌∷◌, ◌++◌, length, bit_xor, slice_index, arith}
use Rattle.std.proofs.Math.ListN.{set, length-set}
use Rattle.std.proofs.lemmas.List.{length-append, length-map}
use Rattle.std.specs.Int.Bits.{xor_zero_l, xor_lt}
use Rattle.std.specs.declared.cmp.Ordering.{Ordering}
use Rattle.std.specs.declared.cmp.Ordering.TheVariants.{Less, Equal, Greater}
use Rattle.std.specs.Ordering.{match_ordering, nat_cmp}
use Rattle.std.specs.Cmp.{tied_itself}
use Rattle.std.specs.List.{AllByRecursion, list_all}
use Rattle.std.specs.List.Sorted.{IsStrictlySortedBy}
use Rattle.std.specs.Map.{keys_of}
use Rattle.lists.specs.laws.ListLaws.{all_append}
use Rattle.gf_field.specs.Power.{power}
use Rattle.poly_mixed.specs.Monomial.{Monomial, text_cmp, text_cmp_total}
use Rattle.poly_mixed.specs.Polynomial.{Terms, Point, IsPoint, IsElement, IsTerm, IsReduced, powers, value}
use Rattle.poly_mixed.specs.Sum.{with_coefficient, plus_term, plus}
use Rattle.poly_mixed.proofs.FieldLaws.{IsField}
use Rattle.poly_mixed.proofs.MonomialLemmas.{text_cmp-same}
use Rattle.poly_mixed.proofs.SumLemmas.{sorted-plus, all_plus}
use Rattle.poly_mixed.proofs.TermLemmas.{all_plus_term}
use Rattle.poly_mixed.proofs.ValueLemmas.{value-plus, power_element, powers_element, product_zero}
use Rattle.word_subst.specs.Univariate.{Powers, IsPower, IsBelow, IsRising, IsUnivariate, value_of}
use Rattle.word_subst.specs.Spread.{Groups, total, with_exponent, spread, all_terms, IsRest, IsGroup}
use Rattle.word_subst.proofs.UnivariateLemmas.{value_of_element}

-- ---- lists of terms of different keys

module _ {K : Type 0} where
  -- no term has this key
  abbrev pub IsApart : K → List (K × ℕ) → Type 0
  IsApart x ts = AllByRecursion (λ t. t.0 ≢ x) ts

  -- no two terms have one key
  abbrev pub AreApart : List (K × ℕ) → Type 0
  AreApart [] = Unit {0}
  AreApart (t ∷ ts) = IsApart t.0 ts × AreApart ts

  pub apart_append : (ts us : List (K × ℕ)) → AreApart ts → AreApart us → AllByRecursion (λ t. IsApart t.0 us) ts → AreApart (ts ++ us)
  apart_append [] us apart more new = more
  apart_append (t ∷ ts) us apart more new = (all_append (λ u. u.0 ≢ t.0) ts us apart.0 new.0, apart_append ts us apart.1 more new.1)

  module _ (R : K → K → Ordering) (same : (x y : K) → R x y ≡ Equal → x ≡ y) where
    length_new : (ts : List (K × ℕ)) (u : K × ℕ) → IsApart u.0 ts → length (plus_term R ts u) ≡ suc (length ts)
    length_new [] u apart = refl
    length_new (t ∷ ts) u apart =
        elim (R u.0 t.0) as (λ r. R u.0 t.0 ≡ r → length (match_ordering r (u ∷ t ∷ ts) (with_coefficient t.0 (bit_xor t.1 u.1) ts) (t ∷ plus_term R ts u)) ≡ suc (suc (length ts))) [
          | Less ↦ λ e. refl
          | Equal ↦ λ e. absurd (apart.0 (sym (same u.0 t.0 e)))
          | Greater ↦ λ e. ap suc (length_new ts u apart.1)
        ] refl

    still : (ts : List (K × ℕ)) (u : K × ℕ) (vs : List (K × ℕ)) → IsApart u.0 vs → AllByRecursion (λ v. IsApart v.0 ts) vs → AllByRecursion (λ v. IsApart v.0 (plus_term R ts u)) vs
    still ts u [] apart new = tt
    still ts u (v ∷ vs) apart new = (all_plus_term R (λ t. t.0 ≢ v.0) u (λ t p n. p) ts new.0 (λ e. apart.0 (sym e)), still ts u vs apart.1 new.1)

    pub length_plus : (ts us : List (K × ℕ)) → AreApart us → AllByRecursion (λ u. IsApart u.0 ts) us → length (plus R ts us) ≡ length ts + length us
    length_plus ts [] apart new = omega arith
    length_plus ts (u ∷ us) apart new = length_plus (plus_term R ts u) us apart.1 (still ts u us apart.0 new.1) ∙ omega (arith, length_new ts u new.0)

    none_there : (us : List (K × ℕ)) → AllByRecursion (λ u. IsApart u.0 []) us
    none_there [] = tt
    none_there (u ∷ us) = (tt, none_there us)

    pub gathered_length : (us : List (K × ℕ)) → AreApart us → length (plus R [] us) ≡ length us
    gathered_length us apart = let none : 0 + length us ≡ length us = omega arith in length_plus [] us apart (none_there us) ∙ none

-- ---- exponents

restore : (xs : List ℕ) (w e : ℕ) → w < length xs → slice_index xs w ≡ 0 → set (set xs w e) w 0 ≡ xs
restore [] w e less none = absurd (omega arith)
restore (x ∷ xs) zero e less none = ap (λ y. y ∷ xs) (sym none)
restore (x ∷ xs) (suc w) e less none = ap (λ ys. x ∷ ys) (restore xs w e (omega arith) none)

pub at_set : (xs : List ℕ) (w e : ℕ) → w < length xs → slice_index (set xs w e) w ≡ e
at_set [] w e less = absurd (omega arith)
at_set (x ∷ xs) zero e less = refl
at_set (x ∷ xs) (suc w) e less = at_set xs w e (omega arith)

pub element_at : (k : ℕ) (xs : List ℕ) (i : ℕ) → AllByRecursion (IsElement k) xs → i < length xs → IsElement k (slice_index xs i)
element_at k [] i all less = absurd (omega arith)
element_at k (x ∷ xs) zero all less = all.0
element_at k (x ∷ xs) (suc i) all less = element_at k xs i all.1 (omega arith)

pub set_all : (P : ℕ → Type 0) (xs : List ℕ) (w e : ℕ) → AllByRecursion P xs → P e → AllByRecursion P (set xs w e)
set_all P [] w e all here = tt
set_all P (x ∷ xs) zero e all here = (here, all.1)
set_all P (x ∷ xs) (suc w) e all here = (all.0, set_all P xs w e all.1 here)

-- an exponent that was taken out is put back
pub put_back : (xs : List ℕ) (w : ℕ) → w < length xs → set (set xs w 0) w (slice_index xs w) ≡ xs
put_back [] w less = absurd (omega arith)
put_back (x ∷ xs) zero less = refl
put_back (x ∷ xs) (suc w) less = ap (λ ys. x ∷ ys) (put_back xs w (omega arith))

module _ (w : ℕ) where
  strip : (m : Monomial) (e : ℕ) → w < length m.exponents → slice_index m.exponents w ≡ 0 → with_exponent w (with_exponent w m e) 0 ≡ m
  strip m e less none = λ i. record { exponents = restore m.exponents w e less none i; bits = m.bits }

  one_rest : (m n : Monomial) (d e : ℕ) → w < length m.exponents → w < length n.exponents → slice_index m.exponents w ≡ 0 → slice_index n.exponents w ≡ 0 → with_exponent w m d ≡ with_exponent w n e → m ≡ n
  one_rest m n d e less low none nought same = sym (strip m d less none) ∙ (ap (λ x. with_exponent w x 0) same ∙ strip n e low nought)

  one_exponent : (m n : Monomial) (d e : ℕ) → w < length m.exponents → w < length n.exponents → with_exponent w m d ≡ with_exponent w n e → d ≡ e
  one_exponent m n d e less low same = sym (at_set m.exponents w d less) ∙ (ap (λ (x : Monomial). slice_index x.exponents w) same ∙ at_set n.exponents w e low)

  module _ (k : ℕ) (inside : w < 8) where
    long : (m : Monomial) → IsRest w k m → w < length m.exponents
    long m is = omega (arith, inside, is.monomial.words)

    -- ---- keys

    apart_below : (m : Monomial) (e : ℕ) (us : Powers) → IsRest w k m → IsBelow e us → IsApart (with_exponent w m e) (spread w m us)
    apart_below m e [] is below = tt
    apart_below m e (u ∷ us) is below = ((λ same. absurd (omega (arith, below.0, one_exponent m m u.0 e (long m is) (long m is) same))), apart_below m e us is below.1)

    spread_apart : (m : Monomial) (us : Powers) → IsRest w k m → IsRising us → AreApart (spread w m us)
    spread_apart m [] is up = tt
    spread_apart m (u ∷ us) is up = (apart_below m u.0 us is up.0, spread_apart m us is up.1)

    others_apart : (m n : Monomial) (e : ℕ) (us : Powers) → IsRest w k m → IsRest w k n → n ≢ m → IsApart (with_exponent w m e) (spread w n us)
    others_apart m n e [] is are other = tt
    others_apart m n e (u ∷ us) is are other = ((λ same. other (one_rest n m u.0 e (long n are) (long m is) are.none is.none same)), others_apart m n e us is are other)

    all_apart : (m : Monomial) (e : ℕ) (gs : Groups) → IsRest w k m → AllByRecursion (IsGroup w k) gs → AllByRecursion (λ g. g.0 ≢ m) gs → IsApart (with_exponent w m e) (all_terms w gs)
    all_apart m e [] is all other = tt
    all_apart m e (g ∷ gs) is all other = all_append (λ t. t.0 ≢ with_exponent w m e) (spread w g.0 g.1) (all_terms w gs) (others_apart m g.0 e g.1 is all.0.rest other.0) (all_apart m e gs is all.1 other.1)

    each_apart : (m : Monomial) (us : Powers) (gs : Groups) → IsRest w k m → AllByRecursion (IsGroup w k) gs → AllByRecursion (λ g. g.0 ≢ m) gs → AllByRecursion (λ t. IsApart t.0 (all_terms w gs)) (spread w m us)
    each_apart m [] gs is all other = tt
    each_apart m (u ∷ us) gs is all other = (all_apart m u.0 gs is all other, each_apart m us gs is all other)

    differ : (m : Monomial) (gs : Groups) → AllByRecursion (λ y. text_cmp m y ≡ Less) (keys_of gs) → AllByRecursion (λ g. g.0 ≢ m) gs
    differ m [] all = tt
    differ m (g ∷ gs) all = (
      (λ same.
          let P : Monomial → Type 0 = λ n. text_cmp m n ≡ Less in
          let less : text_cmp m m ≡ Less = subst P same all.0 in
          let equal : text_cmp m m ≡ Equal = tied_itself text_cmp_total m in
          absurd (cc)),
      differ m gs all.1,
    )

    pub groups_apart : (gs : Groups) → AllByRecursion (IsGroup w k) gs → IsStrictlySortedBy text_cmp (keys_of gs) → AreApart (all_terms w gs)
    unfolding IsStrictlySortedBy
    groups_apart [] all up = tt
    groups_apart (g ∷ gs) all up = apart_append (spread w g.0 g.1) (all_terms w gs) (spread_apart g.0 g.1 all.0.rest all.0.powers.rising) (groups_apart gs all.1 up.1) (each_apart g.0 g.1 gs all.0.rest all.1 (differ g.0 gs up.0))

    pub total_length : (gs : Groups) → length (all_terms w gs) ≡ total gs
    total_length [] = refl
    total_length (g ∷ gs) = length-append (spread w g.0 g.1) (all_terms w gs) ∙ (λ i. length-map {B = Monomial × ℕ} g.1 (λ t. (with_exponent w g.0 t.0, t.1)) i + total_length gs i)

    -- the polynomial of the groups has as many terms as they have powers
    pub groups_length : (gs : Groups) → AllByRecursion (IsGroup w k) gs → IsStrictlySortedBy text_cmp (keys_of gs) → length (plus text_cmp [] (all_terms w gs)) ≡ total gs
    groups_length gs all up = gathered_length text_cmp text_cmp-same (all_terms w gs) (groups_apart gs all up) ∙ total_length gs

    pub spread_length : (m : Monomial) (us : Powers) → IsRest w k m → IsUnivariate k us → length (plus text_cmp [] (spread w m us)) ≡ length us
    spread_length m us is up = gathered_length text_cmp text_cmp-same (spread w m us) (spread_apart m us is up.rising) ∙ length-map {B = Monomial × ℕ} us (λ t. (with_exponent w m t.0, t.1))

    -- ---- terms

    pub spread_terms : (m : Monomial) (us : Powers) → IsRest w k m → AllByRecursion (IsPower k) us → AllByRecursion (IsTerm k) (spread w m us)
    spread_terms m [] is all = tt
    spread_terms m (u ∷ us) is all = (
      record {
        monomial = record { words = length-set m.exponents w u.0 ∙ is.monomial.words; exponents = set_all (IsElement k) m.exponents w u.0 is.monomial.exponents all.0.exponent; rising = is.monomial.rising };
        element = all.0.element;
      },
      spread_terms m us is all.1,
    )

    pub spread_nonzero : (m : Monomial) (us : Powers) → AllByRecursion (IsPower k) us → AllByRecursion (λ t. t.1 ≢ 0) (spread w m us)
    spread_nonzero m [] all = tt
    spread_nonzero m (u ∷ us) all = (all.0.some, spread_nonzero m us all.1)

    pub groups_terms : (gs : Groups) → AllByRecursion (IsGroup w k) gs → AllByRecursion (IsTerm k) (all_terms w gs)
    groups_terms [] all = tt
    groups_terms (g ∷ gs) all = all_append (IsTerm k) (spread w g.0 g.1) (all_terms w gs) (spread_terms g.0 g.1 all.0.rest all.0.powers.powers) (groups_terms gs all.1)

    pub groups_nonzero : (gs : Groups) → AllByRecursion (IsGroup w k) gs → AllByRecursion (λ t. t.1 ≢ 0) (all_terms w gs)
    groups_nonzero [] all = tt
    groups_nonzero (g ∷ gs) all = all_append (λ t. t.1 ≢ 0) (spread w g.0 g.1) (all_terms w gs) (spread_nonzero g.0 g.1 all.0.powers.powers) (groups_nonzero gs all.1)

-- ---- values

pub nothing_sorted : IsStrictlySortedBy text_cmp (keys_of {K = Monomial} {X = ℕ} [])
unfolding IsStrictlySortedBy
nothing_sorted = tt

rising_bits : (k : ℕ) (ts : Terms) → AllByRecursion (IsTerm k) ts → AllByRecursion (λ t. IsStrictlySortedBy nat_cmp t.0.bits) ts
rising_bits k [] all = tt
rising_bits k (t ∷ ts) all = (all.0.monomial.rising, rising_bits k ts all.1)

module _ {k : ℕ} {mul : ℕ → ℕ → ℕ} (f : IsField k mul) where
  pub gathered_reduced : (ts : Terms) → AllByRecursion (IsTerm k) ts → AllByRecursion (λ t. t.1 ≢ 0) ts → IsReduced k (plus text_cmp [] ts)
  gathered_reduced ts all nonzero = record {
    is_map = record {
      sorted = sorted-plus text_cmp text_cmp_total [] ts nothing_sorted;
      rising = all_plus text_cmp (λ t. IsStrictlySortedBy nat_cmp t.0.bits) (λ t u h g n. h) [] ts tt (rising_bits k ts all);
      nonzero = all_plus text_cmp (λ t. t.1 ≢ 0) (λ t u h g n. n) [] ts tt nonzero;
    };
    terms = all_plus text_cmp (IsTerm k) (λ t u h g n. record { monomial = h.monomial; element = xor_lt k t.1 u.1 h.element g.element }) [] ts tt all;
  }

  pub gathered_value : (p : Point) → IsPoint k p → (ts : Terms) → AllByRecursion (IsTerm k) ts → value mul p (plus text_cmp [] ts) ≡ value mul p ts
  gathered_value p at ts all = value-plus f p at [] ts tt all ∙ xor_zero_l (value mul p ts)

  -- a power of one word more
  pub powers_set : (xs ws : List ℕ) (w e : ℕ) → w < length xs → length xs ≡ length ws → slice_index xs w ≡ 0 → AllByRecursion (IsElement k) ws → powers mul (set xs w e) ws ≡ mul (power mul (slice_index ws w) e) (powers mul xs ws)
  unfolding power
  powers_set [] ws w e less same none all = absurd (omega arith)
  powers_set (x ∷ xs) [] w e less same none all = absurd (omega arith)
  powers_set (x ∷ xs) (v ∷ ws) zero e less same none all =
      let q = powers mul xs ws in
      let hq = powers_element f xs ws all.1 in
      ap (mul (power mul v e)) (sym (ap (λ n. mul (power mul v n) q) none ∙ f.neutral q hq))
  powers_set (x ∷ xs) (v ∷ ws) (suc w) e less same none all =
      let p = power mul v x in
      let y = power mul (slice_index ws w) e in
      let q = powers mul xs ws in
      let hp = power_element f v x all.0 in
      let hy = power_element f (slice_index ws w) e (element_at k ws w all.1 (omega arith)) in
      let hq = powers_element f xs ws all.1 in
      ap (mul p) (powers_set xs ws w e (omega arith) (omega arith) none all.1) ∙ (sym (f.assoc p y q hp hy hq) ∙ (ap (λ n. mul n q) (f.comm p y hp hy) ∙ f.assoc y p q hy hp hq))

  pub word_element : (p : Point) (w : ℕ) → IsPoint k p → w < 8 → IsElement k (slice_index p.words w)
  word_element p w at less = element_at k p.words w at.elements (omega (arith, less, at.words))

  module _ (w : ℕ) (inside : w < 8) where
    -- the value of a polynomial in the word times a monomial without it
    pub spread_value : (p : Point) (m : Monomial) (us : Powers) → IsPoint k p → IsRest w k m → AllByRecursion (IsPower k) us
        → value mul p (spread w m us) ≡ cond (list_all p.is_one m.bits) (mul (value_of mul (slice_index p.words w) us) (powers mul m.exponents p.words)) 0
    spread_value p m us at is all = elim (list_all p.is_one m.bits) as (λ b. list_all p.is_one m.bits ≡ b → value mul p (spread w m us) ≡ cond b (mul (value_of mul (slice_index p.words w) us) (powers mul m.exponents p.words)) 0) [
      | true ↦ λ e. stands e us all
      | false ↦ λ e. falls e us
    ] refl
      where
        q : ℕ
        q = powers mul m.exponents p.words

        hq : IsElement k (powers mul m.exponents p.words)
        hq = powers_element f m.exponents p.words at.elements

        falls : list_all p.is_one m.bits ≡ false → (vs : Powers) → value mul p (spread w m vs) ≡ 0
        falls e [] = refl
        falls e (v ∷ vs) = (λ i. bit_xor (cond (e i) (mul v.1 (powers mul (set m.exponents w v.0) p.words)) 0) (falls e vs i)) ∙ xor_zero_l 0

        stands : list_all p.is_one m.bits ≡ true → (vs : Powers) → AllByRecursion (IsPower k) vs → value mul p (spread w m vs) ≡ mul (value_of mul (slice_index p.words w) vs) (powers mul m.exponents p.words)
        stands e [] each = sym (product_zero f (powers mul m.exponents p.words) hq)
        stands e (v ∷ vs) each =
            let x = slice_index p.words w in
            let hx = word_element p w at inside in
            let y = power mul x v.0 in
            let hy = power_element f x v.0 hx in
            let z = powers mul m.exponents p.words in
            let one : mul v.1 (powers mul (set m.exponents w v.0) p.words) ≡ mul (mul v.1 y) z =
            ap (mul v.1) (powers_set m.exponents p.words w v.0 (omega (arith, inside, is.monomial.words)) (is.monomial.words ∙ sym at.words) is.none at.elements) ∙ sym (f.assoc v.1 y z each.0.element hy hq) in
            (λ i. bit_xor ((ap (λ b. cond b (mul v.1 (powers mul (set m.exponents w v.0) p.words)) 0) e ∙ one) i) (stands e vs each.1 i))
            ∙ sym (f.distrib (mul v.1 y) (value_of mul x vs) z (f.closed v.1 y each.0.element hy) (value_of_element f x vs hx each.1) hq)
