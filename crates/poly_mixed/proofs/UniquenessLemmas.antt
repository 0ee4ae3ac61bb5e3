-- A polynomial that is 0 at every point has no term.
use Rattle.std.proofs.Common.{◌≡◌, ℕ, zero, suc, ◌≤◌, ◌≢◌, Bool, true, false, cond, List, [], ◌∷◌, length, ◌⊎◌, inl, inr, bit_xor, refl, sym, ◌∙◌, ap, subst, arith}
use lib.Bits.{xor_self, xor_zero_l, xor_zero_r}
use Rattle.std.specs.declared.cmp.Ordering.{Ordering}
use Rattle.std.specs.declared.cmp.Ordering.TheVariants.{Less, Equal, Greater}
use Rattle.std.specs.Cmp.{IsTotalOrder, tied_itself, back_total, nat_cmp_total}
use Rattle.std.specs.Cmp.Lexicographic.{nat_list_cmp_total, lists_total}
use Rattle.std.specs.Ordering.{nat_cmp, is_eq, flip_args, ordering_then}
use Rattle.std.specs.List.{AllByRecursion, list_all}
use Rattle.std.specs.List.Sorted.{IsStrictlySortedBy}
use Rattle.std.specs.Map.{keys_of}
use Rattle.std.specs.FinMap.{nat_cmp-IsAntisymmetric, slice_cmp-IsAntisymmetric}
use Rattle.std.proofs.lemmas.Bool.{cases_lt, false_from_ne_true}
use Rattle.lists.specs.laws.OrderingLaws.{is_equal}
use Rattle.lists.specs.laws.XorLaws.{xor_same}
use Rattle.poly_mixed.specs.Polynomial.{IsElement}
use Rattle.poly_mixed.proofs.FieldLaws.{IsField}
use Rattle.poly_mixed.specs.Monomial.{Monomial, exponents_cmp, ranks_cmp, text_cmp}
use Rattle.poly_mixed.specs.Polynomial.{Terms, Point, IsPoint, IsTerm, IsReduced, coefficient, powers, value}
use Rattle.gf_field.specs.Power.{power}
use Rattle.poly_mixed.specs.Sum.{xor_sum, plus}
use Rattle.poly_mixed.proofs.SumLemmas.{all_plus}
use Rattle.poly_mixed.proofs.SubsetLemmas.{is_in, subset, whole}
use Rattle.poly_mixed.specs.laws.Uniqueness.{IsZeros, InBits, UniqueInBits, Unique, OneSize}
use Rattle.poly_mixed.proofs.Independent.{IsIndependent}
use Rattle.poly_mixed.proofs.WordLemmas.{word_value, IsWordTerm, no_word_terms}
use Rattle.poly_mixed.proofs.ValueLemmas.{value-plus, reduced_plus, coefficient-plus, same_map, one_element, zero_element}

-- ---- the smallest set of ranks

abbrev same_bits : List ℕ → Monomial × ℕ → Bool
same_bits s t = is_eq (ranks_cmp s t.0.bits)

ranks_total : IsTotalOrder ranks_cmp
ranks_total = back_total (lists_total (back_total nat_cmp_total))

bits_are : (s : List ℕ) (t : Monomial × ℕ) → same_bits s t ≡ true → t.0.bits ≡ s
bits_are s t e = slice_cmp-IsAntisymmetric {R = flip_args nat_cmp} (λ m n h. sym (nat_cmp-IsAntisymmetric n m h)) t.0.bits s (is_equal (ranks_cmp s t.0.bits) e)

are_bits : (s : List ℕ) (t : Monomial × ℕ) → t.0.bits ≡ s → same_bits s t ≡ true
are_bits s t e =
    let P : List ℕ → Type 0 = λ b. is_eq (ranks_cmp s b) ≡ true in
    subst P (sym e) (ap is_eq (tied_itself ranks_total s))

-- the terms whose set is s, as a polynomial in the words
abbrev pub words_part : List ℕ → Terms → List (List ℕ × ℕ)
words_part s [] = []
words_part s (t ∷ ts) = cond (same_bits s t) ((t.0.exponents, t.1) ∷ words_part s ts) (words_part s ts)

abbrev at_set : List ℕ → List ℕ → Point
at_set ws s = record { words = ws; is_one = is_in s }

has_here : (s : List ℕ) (t : Monomial × ℕ) (ts : Terms) → s ≡ t.0.bits → words_part s (t ∷ ts) ≢ []
has_here s t ts e h =
    let P : Bool → Type 0 = λ b. cond b ((t.0.exponents, t.1) ∷ words_part s ts) (words_part s ts) ≡ [] in
    let bad : (t.0.exponents, t.1) ∷ words_part s ts ≡ [] = subst P (are_bits s t (sym e)) h in cc

has_later : (s : List ℕ) (t : Monomial × ℕ) (ts : Terms) → words_part s ts ≢ [] → words_part s (t ∷ ts) ≢ []
has_later s t ts n h =
    elim (same_bits s t) as (λ b. cond b ((t.0.exponents, t.1) ∷ words_part s ts) (words_part s ts) ≡ [] → ⊥) [ true ↦ λ e. cc | false ↦ λ e. n e ] h

-- a set among s and those of the terms that none of them is shorter than
smallest : (s : List ℕ) (ts : Terms) → (m : List ℕ) × (length m ≤ length s) × AllByRecursion (λ t. length m ≤ length t.0.bits) ts × ((m ≡ s) ⊎ (words_part m ts ≢ []))
smallest s [] = (s, omega arith, tt, inl refl)
smallest s (t ∷ ts) =
    elim (cases_lt (length t.0.bits) (length s)) [
      | inl l ↦
          let r = smallest t.0.bits ts in
          (r.0, omega (arith, r.1), (r.1, r.2), elim r.3 [ inl e ↦ inr (has_here r.0 t ts e) | inr n ↦ inr (has_later r.0 t ts n) ])
      | inr l ↦
          let r = smallest s ts in
          (r.0, r.1, (omega (arith, r.1), r.2), elim r.3 [ inl e ↦ inl e | inr n ↦ inr (has_later r.0 t ts n) ])
    ]

-- at the ranks of s alone, and no set being shorter, the value is that of the part with s
at_smallest : (degree : ℕ) (mul : ℕ → ℕ → ℕ) (ws s : List ℕ) (ts : Terms) → IsStrictlySortedBy nat_cmp s → AllByRecursion (IsTerm degree) ts → AllByRecursion (λ t. length s ≤ length t.0.bits) ts → value mul (at_set ws s) ts ≡ xor_sum (word_value mul ws) (words_part s ts)
at_smallest degree mul ws s [] up all low = refl
at_smallest degree mul ws s (t ∷ ts) up all low =
    elim (same_bits s t) as (λ b. same_bits s t ≡ b → value mul (at_set ws s) (t ∷ ts) ≡ xor_sum (word_value mul ws) (cond b ((t.0.exponents, t.1) ∷ words_part s ts) (words_part s ts))) [
      | true ↦ λ e.
          let P : List ℕ → Type 0 = λ b. list_all (is_in s) b ≡ true in
          let here : list_all (is_in s) t.0.bits ≡ true = subst P (sym (bits_are s t e)) (whole s) in
          (λ i. bit_xor (cond (here i) (mul t.1 (powers mul t.0.exponents ws)) 0) (at_smallest degree mul ws s ts up all.1 low.1 i))
      | false ↦ λ e.
          let off : list_all (is_in s) t.0.bits ≡ false =
          false_from_ne_true (list_all (is_in s) t.0.bits) (λ h.
          elim (subset s t.0.bits up all.0.monomial.rising h) [
            | inl l ↦ let m = low.0 in absurd (omega arith)
            | inr w ↦ let h2 = are_bits s t w in cc
          ]) in
          ap (λ b. bit_xor (cond b (mul t.1 (powers mul t.0.exponents ws)) 0) (value mul (at_set ws s) ts)) off
          ∙ xor_zero_l (value mul (at_set ws s) ts) ∙ at_smallest degree mul ws s ts up all.1 low.1
    ] refl

-- ---- the part with one set is a polynomial in words

first_less : (r q : Ordering) → q ≡ Equal → ordering_then r q ≡ Less → r ≡ Less
first_less Less q e h = refl
first_less Equal q e h = cc
first_less Greater q e h = cc

words_less : (s : List ℕ) (t u : Monomial × ℕ) → same_bits s t ≡ true → same_bits s u ≡ true → text_cmp t.0 u.0 ≡ Less → exponents_cmp t.0.exponents u.0.exponents ≡ Less
words_less s t u p q h =
    let tie : ranks_cmp t.0.bits u.0.bits ≡ Equal = (λ i. ranks_cmp (bits_are s t p i) (bits_are s u q i)) ∙ tied_itself ranks_total s in
    first_less (exponents_cmp t.0.exponents u.0.exponents) (ranks_cmp t.0.bits u.0.bits) tie h

words_below : (s : List ℕ) (t : Monomial × ℕ) (ts : Terms) → same_bits s t ≡ true → AllByRecursion (λ y. text_cmp t.0 y ≡ Less) (keys_of ts) → AllByRecursion (λ y. exponents_cmp t.0.exponents y ≡ Less) (keys_of (words_part s ts))
words_below s t [] p up = tt
words_below s t (u ∷ ts) p up =
    elim (same_bits s u) as (λ b. same_bits s u ≡ b → AllByRecursion (λ y. exponents_cmp t.0.exponents y ≡ Less) (keys_of (cond b ((u.0.exponents, u.1) ∷ words_part s ts) (words_part s ts)))) [
      | true ↦ λ q. (words_less s t u p q up.0, words_below s t ts p up.1)
      | false ↦ λ q. words_below s t ts p up.1
    ] refl

words_sorted : (s : List ℕ) (ts : Terms) → IsStrictlySortedBy text_cmp (keys_of ts) → IsStrictlySortedBy exponents_cmp (keys_of (words_part s ts))
unfolding IsStrictlySortedBy
words_sorted s [] up = tt
words_sorted s (t ∷ ts) up =
    elim (same_bits s t) as (λ b. same_bits s t ≡ b → IsStrictlySortedBy exponents_cmp (keys_of (cond b ((t.0.exponents, t.1) ∷ words_part s ts) (words_part s ts)))) [
      | true ↦ λ p. (words_below s t ts p up.0, words_sorted s ts up.1)
      | false ↦ λ p. words_sorted s ts up.1
    ] refl

-- what holds of each term's exponents and coefficient
words_all : (P : List ℕ × ℕ → Type 0) (s : List ℕ) (ts : Terms) → AllByRecursion (λ t. P (t.0.exponents, t.1)) ts → AllByRecursion P (words_part s ts)
words_all P s [] all = tt
words_all P s (t ∷ ts) all =
    elim (same_bits s t) as (λ b. AllByRecursion P (cond b ((t.0.exponents, t.1) ∷ words_part s ts) (words_part s ts))) [
      | true ↦ (all.0, words_all P s ts all.1)
      | false ↦ words_all P s ts all.1
    ]

word_terms : (degree : ℕ) (mul : ℕ → ℕ → ℕ) (ts : Terms) → AllByRecursion (IsTerm degree) ts → AllByRecursion (λ t. t.1 ≢ 0) ts → AllByRecursion (λ t. IsWordTerm degree 8 (t.0.exponents, t.1)) ts
word_terms degree mul [] all n = tt
word_terms degree mul (t ∷ ts) all n =
    (record { words = all.0.monomial.words; exponents = all.0.monomial.exponents; element = all.0.element; nonzero = n.0 }, word_terms degree mul ts all.1 n.1)

rising_of_some : (degree : ℕ) (mul : ℕ → ℕ → ℕ) (m s : List ℕ) (ts : Terms) → IsStrictlySortedBy nat_cmp s → AllByRecursion (IsTerm degree) ts → (m ≡ s) ⊎ (words_part m ts ≢ []) → IsStrictlySortedBy nat_cmp m
rising_of_some degree mul m s ts up all (inl e) = (let P : List ℕ → Type 0 = IsStrictlySortedBy nat_cmp in subst P (sym e) up)
rising_of_some degree mul m s [] up all (inr n) = absurd (n refl)
rising_of_some degree mul m s (t ∷ ts) up all (inr n) =
    elim (same_bits m t) as (λ b. same_bits m t ≡ b → (cond b ((t.0.exponents, t.1) ∷ words_part m ts) (words_part m ts) ≢ []) → IsStrictlySortedBy nat_cmp m) [
      | true ↦ λ p _. (let P : List ℕ → Type 0 = IsStrictlySortedBy nat_cmp in subst P (bits_are m t p) all.0.monomial.rising)
      | false ↦ λ p k. rising_of_some degree mul m s ts up all.1 (inr k)
    ] refl n

module _ {degree : ℕ} {mul : ℕ → ℕ → ℕ} (f : IsField degree mul) where
  -- each part with one set is empty, so no term is left
  by_parts : (ts : Terms) → IsReduced degree ts → ((ws s : List ℕ) → length ws ≡ 8 → AllByRecursion (IsElement degree) ws → value mul (at_set ws s) ts ≡ 0) → ((s : List ℕ) → ((ws : List ℕ) → length ws ≡ 8 → AllByRecursion (IsElement degree) ws → xor_sum (word_value mul ws) (words_part s ts) ≡ 0) → words_part s ts ≡ []) → ts ≡ []
  by_parts [] r zeros empty = refl
  by_parts (t ∷ ts) r zeros empty =
      let m = smallest t.0.bits ts in
      let here : words_part m.0 (t ∷ ts) ≢ [] = elim m.3 [ inl e ↦ has_here m.0 t ts e | inr n ↦ has_later m.0 t ts n ] in
      let up : IsStrictlySortedBy nat_cmp m.0 = rising_of_some degree mul m.0 t.0.bits ts r.terms.0.monomial.rising r.terms.1 m.3 in
      absurd (here (empty m.0 (λ ws l e. sym (at_smallest degree mul ws m.0 (t ∷ ts) up r.terms (m.1, m.2)) ∙ zeros ws m.0 l e)))

  pub zero_everywhere : IsIndependent degree mul → (ts : Terms) → IsReduced degree ts → ((p : Point) → IsPoint degree p → value mul p ts ≡ 0) → ts ≡ []
  zero_everywhere ind ts r zeros =
      by_parts ts r (λ ws s l e. zeros (at_set ws s) (record { words = l; elements = e }))
      (λ s h. no_word_terms f ind 8 (words_part s ts) (words_all (IsWordTerm degree 8) s ts (word_terms degree mul ts r.terms r.is_map.nonzero)) (words_sorted s ts r.is_map.sorted) h)

  -- two polynomials with one value at each point are one, where those that are 0 everywhere are empty
  from_zero : (ts us : Terms) → IsReduced degree ts → IsReduced degree us → ((p : Point) → IsPoint degree p → value mul p ts ≡ value mul p us) → (((p : Point) → IsPoint degree p → value mul p (plus text_cmp ts us) ≡ 0) → plus text_cmp ts us ≡ []) → ts ≡ us
  from_zero ts us r s h empty =
      let none : plus text_cmp ts us ≡ [] = empty (λ p at. value-plus f p at ts us r.terms s.terms ∙ ap (λ n. bit_xor n (value mul p us)) (h p at) ∙ xor_self (value mul p us)) in
      same_map ts us r.is_map s.is_map (λ m. xor_same (coefficient ts m) (coefficient us m) (sym (coefficient-plus ts us m r.is_map s.is_map) ∙ ap (λ (vs : Terms). coefficient vs m) none))

  pub unique : IsIndependent degree mul → Unique degree mul
  unique ind ts us r s h = from_zero ts us r s h (zero_everywhere ind (plus text_cmp ts us) (reduced_plus f ts us r s))

-- ---- in bits alone, where nothing is asked of the powers

pub zeros_same : (xs ys : List ℕ) → IsZeros xs → IsZeros ys → length xs ≡ length ys → xs ≡ ys
zeros_same [] [] p q e = refl
zeros_same [] (y ∷ ys) p q e = absurd (omega arith)
zeros_same (x ∷ xs) [] p q e = absurd (omega arith)
zeros_same (x ∷ xs) (y ∷ ys) p q e =
    let same : x ≡ y = p.0 ∙ sym q.0 in
    let tails : xs ≡ ys = zeros_same xs ys p.1 q.1 (omega arith) in
    λ i. same i ∷ tails i

module _ {degree : ℕ} {mul : ℕ → ℕ → ℕ} (f : IsField degree mul) where
  pub zero_powers : (es ws : List ℕ) → IsZeros es → powers mul es ws ≡ 1
  unfolding power
  zero_powers [] ws z = refl
  zero_powers (e ∷ es) [] z = refl
  zero_powers (e ∷ es) (w ∷ ws) z = (λ i. mul (power mul w (z.0 i)) (zero_powers es ws z.1 i)) ∙ f.neutral 1 (one_element f)

  no_bit_terms : (ts : List (List ℕ × ℕ)) (ws : List ℕ) → AllByRecursion (λ t. IsZeros t.0) ts → AllByRecursion (IsWordTerm degree 8) ts → IsStrictlySortedBy exponents_cmp (keys_of ts) → xor_sum (word_value mul ws) ts ≡ 0 → ts ≡ []
  unfolding IsStrictlySortedBy
  no_bit_terms [] ws z all s h = refl
  no_bit_terms (t ∷ []) ws z all s h =
      absurd (all.0.nonzero (sym ((λ i. bit_xor (mul t.1 (zero_powers t.0 ws z.0 i)) 0) ∙ xor_zero_r (mul t.1 1) ∙ f.comm t.1 1 all.0.element (one_element f) ∙ f.neutral t.1 all.0.element) ∙ h))
  no_bit_terms (t ∷ u ∷ ts) ws z all s h =
      let same : t.0 ≡ u.0 = zeros_same t.0 u.0 z.0 z.1.0 (all.0.words ∙ sym all.1.0.words) in
      let P : List ℕ → Type 0 = λ x. exponents_cmp x u.0 ≡ Less in
      let tie = tied_itself (back_total nat_list_cmp_total) u.0 in
      let bad : Equal ≡ Less = sym tie ∙ subst P same s.0.0 in cc

  origin : (n : ℕ) → (ws : List ℕ) × (length ws ≡ n) × AllByRecursion (IsElement degree) ws
  origin zero = ([], refl, tt)
  origin (suc n) = let r = origin n in (0 ∷ r.0, omega (arith, r.1), (zero_element f, r.2))

  in_bits-plus : (ts us : Terms) → InBits ts → InBits us → InBits (plus text_cmp ts us)
  in_bits-plus ts us p q = all_plus text_cmp (λ t. IsZeros t.0.exponents) (λ t u h k n. h) ts us p q

  pub unique_in_bits : UniqueInBits degree mul
  unique_in_bits ts us r s p q h =
      let sum = plus text_cmp ts us in
      let red = reduced_plus f ts us r s in
      from_zero f ts us r s h (λ zeros.
      by_parts f sum red (λ ws m l e. zeros (at_set ws m) (record { words = l; elements = e }))
      (λ m v. let o = origin 8 in
      no_bit_terms (words_part m sum) o.0 (words_all (λ t. IsZeros t.0) m sum (in_bits-plus ts us p q))
      (words_all (IsWordTerm degree 8) m sum (word_terms degree mul sum red.terms red.is_map.nonzero)) (words_sorted m sum red.is_map.sorted) (v o.0 o.1 o.2)))

pub one_size : {degree : ℕ} {mul : ℕ → ℕ → ℕ} → Unique degree mul → OneSize degree mul
one_size one h m n p q =
    sym p.size ∙ ap length (one p.terms q.terms p.is.reduced q.is.reduced (λ pt at. p.is.values pt at ∙ sym (q.is.values pt at))) ∙ q.size
