-- The polynomial that a running sum holds: its size and its values.
use Rattle.std.proofs.Common.{◌≡◌, ◌∙◌, ap, sym, refl, subst, ℕ, zero, suc, ◌<◌, ◌≤◌, ◌+◌, ◌*◌, ◌^◌, ◌==◌, true, false, cond, List, [], ◌∷◌, length, bit_xor, Result, Ok, Err, OnOk, inl, arith}
use Rattle.std.specs.Prelude.{Option, slice_index}
use lib.Bits.{xor_assoc, xor_lt, xor_zero_r}
use Rattle.std.proofs.lemmas.Bool.{eqb-true, eqb-false}
use Rattle.std.proofs.lemmas.Nat.{pow_below, pow_pos}
use Rattle.std.specs.List.{list_all}
use Rattle.gf_basis.specs.declared.bases.Basis.{Basis}
use Rattle.gf_field.specs.Field.{HasNoZeroDivisors}
use Rattle.gf_field.specs.Polynomial.{sum_of_first}
use Rattle.gf_field.specs.Power.{power}
use Rattle.gf_field.specs.Ring.{IsRing}
use Rattle.gf_field.specs.Trace.{frobenius}
use Rattle.gf_field.specs.laws.RingLaws.{mul_zero, zero_mul}
use Rattle.gf_field.specs.laws.TraceLaws.{frobenius-power}
use Rattle.net_words.specs.Binding.{BoundNet}
use Rattle.poly_mixed.specs.Monomial.{Monomial, text_cmp}
use Rattle.poly_mixed.specs.Polynomial.{Polynomial, Terms, Point, IsElement, IsMonomial, IsPoint, IsReduced, IsTerm, powers, term_value, value}
use Rattle.poly_mixed.specs.Product.{times}
use Rattle.poly_mixed.specs.Sum.{plus_term}
use Rattle.poly_mixed.proofs.FieldLaws.{IsField, field_of}
use Rattle.poly_mixed.proofs.PowerLemmas.{power_monomial, power_polynomial}
use Rattle.poly_mixed.proofs.ProductLemmas.{one_term, term-times, term_value-times}
use Rattle.poly_mixed.proofs.ValueLemmas.{one_element, power_element, powers_element, reduced_plus, value-plus}
use Rattle.cert_check.specs.declared.form.Form.{Form}
use Rattle.cert_check.specs.declared.row.Row.{Row}
use Rattle.cert_check.specs.declared.running_sum.RunningSum.{RunningSum}
use Rattle.cert_check.specs.private.Held.{dual_of, power_of, square_of, square_term, row_term, with_term, with_first, with_rows, whole, IsRow, IsSettled, AreRows, row_value, rows_value, held_value, form_value, IsHeld, IsSplit}
use Rattle.poly_mixed.proofs.SharedLemmas.{element_in, plus_term_few}

-- ---- sizes

term_length : (ts : Terms) (t : Monomial × ℕ) → length (with_term ts t) ≤ length ts + 1
term_length ts t = elim (t.1 == 0) as (λ b. length (cond b ts (plus_term text_cmp ts t)) ≤ length ts + 1) [ true ↦ omega arith | false ↦ omega (arith, plus_term_few ts t) ]

module _ (k : ℕ) (mul : ℕ → ℕ → ℕ) (dual : ℕ → ℕ → ℕ) where
  first_length : (row : Row) (n : ℕ) (ts : Terms) → length (with_first k mul dual row n ts) ≤ length ts + n
  first_length row zero ts = omega arith
  first_length row (suc n) ts =
      let less = first_length row n ts in
      let one = term_length (with_first k mul dual row n ts) (row_term k mul dual row n) in
      omega (arith, less, one)

  one_more : (n : ℕ) → suc n * k ≡ k + n * k
  one_more n = omega arith

  rows_length : (rows : List Row) (ts : Terms) → length (with_rows k mul dual rows ts) ≤ length ts + length rows * k
  rows_length [] ts = omega arith
  rows_length (row ∷ rows) ts =
      let first = first_length row k ts in
      let more = rows_length rows (with_first k mul dual row k ts) in
      let turn : length (row ∷ rows) * k ≡ k + length rows * k = one_more (length rows) in
      omega (arith, first, more, turn)

  -- the size is at most that of the polynomial and k for each row
  pub whole_length : (sum : RunningSum) → length (whole k mul dual sum) ≤ length sum.poly.terms + length sum.rows.items * k
  whole_length sum = rows_length sum.rows.items sum.poly.terms

  pub whole_within : (bound : ℕ) (sum : RunningSum) (rows : ℕ) → rows ≡ length sum.rows.items → length sum.poly.terms + rows * k ≤ bound → length (whole k mul dual sum) ≤ bound
  whole_within bound sum rows same less =
      let P : ℕ → Type 0 = λ n. length sum.poly.terms + n * k ≤ bound in
      let most : length sum.poly.terms + length sum.rows.items * k ≤ bound = subst P same less in
      let small = whole_length sum in
      omega (arith, most, small)

  -- where all was added
  pub flushed_settled : {X E : Type 0} (r : Result X E) (new : RunningSum) (bound : ℕ) → OnOk r (new.rows.items ≡ []) → OnOk r (new.poly.waiting ≡ 0) → OnOk r (IsSettled k bound new)
  flushed_settled (Ok x) new bound rows waiting = inl (rows, waiting)
  flushed_settled (Err e) new bound rows waiting = tt

-- ---- values

module _ {k : ℕ} {mul : ℕ → ℕ → ℕ} (ring : IsRing k mul) (field : HasNoZeroDivisors k mul) where
  laws : IsField k mul
  laws = field_of k mul ring field

  -- a term's value is its monomial's, times the coefficient
  pub coefficient_out : (p : Point) → IsPoint k p → (m : Monomial) (c : ℕ) → term_value mul p (m, c) ≡ mul (term_value mul p (m, 1)) c
  coefficient_out p at m c =
      let x : ℕ = powers mul m.exponents p.words in
      let inside : IsElement k x = powers_element laws m.exponents p.words at.elements in
      elim (list_all p.is_one m.bits) as (λ b. cond b (mul c x) 0 ≡ mul (cond b (mul 1 x) 0) c) [
        | true ↦ ring.comm c x ∙ ap (λ y. mul y c) (sym (ring.one x inside))
        | false ↦ sym (zero_mul k mul ring c)
      ]

  no_value : (p : Point) → IsPoint k p → (t : Monomial × ℕ) → t.1 ≡ 0 → term_value mul p t ≡ 0
  no_value p at t none = coefficient_out p at t.0 t.1 ∙ (ap (mul (term_value mul p (t.0, 1))) none ∙ mul_zero k mul ring (term_value mul p (t.0, 1)))

  power_value : (p : Point) → IsPoint k p → (word e c : ℕ) → word < 8 → IsElement k e → term_value mul p (power_of word e, c) ≡ mul c (power mul (slice_index p.words word) e)
  power_value p at word e c less inside =
      let m : Monomial = power_of word e in
      let x : ℕ = power mul (slice_index p.words word) e in
      let q : Polynomial = record { terms = (m, 1) ∷ []; slots = [] } in
      let one : term_value mul p (m, 1) ≡ mul 1 x = sym (xor_zero_r (term_value mul p (m, 1))) ∙ (power_polynomial laws word e 1 m q less refl inside (one_element laws) refl).values p at in
      let within : IsElement k x = power_element laws (slice_index p.words word) e (element_in k p word at less) in
      coefficient_out p at m c ∙ (ap (λ y. mul y c) (one ∙ ring.one x within) ∙ ring.comm x c)

  -- a sum of products is an element
  pub sum_element : (n : ℕ) (c g : ℕ → ℕ) → IsElement k (sum_of_first n (λ i. mul (c i) (g i)))
  sum_element zero c g = pow_pos k
  sum_element (suc n) c g = xor_lt k (sum_of_first n (λ i. mul (c i) (g i))) (mul (c n) (g n)) (sum_element n c g) (ring.closed (c n) (g n))

  -- one more term
  pub with_term_is : (ts : Terms) (t : Monomial × ℕ) → IsReduced k ts → IsTerm k t → IsReduced k (with_term ts t) × ((p : Point) → IsPoint k p → value mul p (with_term ts t) ≡ bit_xor (value mul p ts) (term_value mul p t))
  with_term_is ts t reduced is =
      elim (t.1 == 0) as (λ b. (t.1 == 0) ≡ b → IsReduced k (cond b ts (plus_term text_cmp ts t)) × ((p : Point) → IsPoint k p → value mul p (cond b ts (plus_term text_cmp ts t)) ≡ bit_xor (value mul p ts) (term_value mul p t))) [
        | true ↦ λ none. (reduced, λ p at. sym (ap (bit_xor (value mul p ts)) (no_value p at t (eqb-true t.1 0 none)) ∙ xor_zero_r (value mul p ts)))
        | false ↦ λ some. (
          reduced_plus laws ts (t ∷ []) reduced (one_term laws t.0 t.1 is (eqb-false t.1 0 some)),
          λ p at. value-plus laws p at ts (t ∷ []) reduced.terms (is, tt) ∙ ap (bit_xor (value mul p ts)) (xor_zero_r (term_value mul p t)),
        )
      ] refl

  module _ (netlist : BoundNet) (bases : List Basis) where
    module _ (row : Row) (is : IsRow netlist bases k row) where
      exponent_within : (j : ℕ) → j < k → IsElement k (2 ^ j)
      exponent_within j less = pow_below j k less

      power_is : (j : ℕ) → j < k → IsMonomial k (power_of row.word (2 ^ j))
      power_is j less = power_monomial laws row.word (2 ^ j) (power_of row.word (2 ^ j)) refl (exponent_within j less)

      pub square_term_is : (j c : ℕ) → j < k → IsElement k c → IsTerm k (square_term k row j c)
      square_term_is j c less inside =
          let m : Monomial = times k row.mono (power_of row.word (2 ^ j)) in
          let P : ℕ → Type 0 = λ x. IsTerm k (m, x) in
          subst P (ring.one c inside)
          (term-times laws row.mono (power_of row.word (2 ^ j)) 1 c (record { monomial = is.monomial; element = one_element laws }) (record { monomial = power_is j less; element = inside }))

      pub square_term_value : (p : Point) → IsPoint k p → (j c : ℕ) → j < k → IsElement k c → term_value mul p (square_term k row j c) ≡ mul (term_value mul p (row.mono, 1)) (mul c (frobenius mul j (slice_index p.words row.word)))
      square_term_value p at j c less inside =
          let x : ℕ = slice_index p.words row.word in
          let n : Monomial = power_of row.word (2 ^ j) in
          let m : Monomial = times k row.mono n in
          ap (λ d. term_value mul p (m, d)) (sym (ring.one c inside))
          ∙ (term_value-times laws p at row.mono n 1 c (one_element laws) inside (is.monomial.words ∙ sym (power_is j less).words)
          ∙ ap (mul (term_value mul p (row.mono, 1))) (power_value p at row.word (2 ^ j) c is.word (exponent_within j less) ∙ ap (mul c) (sym (frobenius-power k mul ring j x (element_in k p row.word at is.word)))))

    module _ (dual : ℕ → ℕ → ℕ) where
      -- the sum of the first squares of a row
      abbrev pub first_sum : Row → Point → ℕ → ℕ
      first_sum row p n = sum_of_first n (λ j. mul (square_of k mul dual row.coefficients.items row.word j) (frobenius mul j (slice_index p.words row.word)))

      square_element : (row : Row) (j : ℕ) → IsElement k (square_of k mul dual row.coefficients.items row.word j)
      square_element row j = sum_element k (λ i. slice_index row.coefficients.items i) (λ i. frobenius mul j (dual row.word i))

      with_first_is : (row : Row) → IsRow netlist bases k row → (n : ℕ) → n ≤ k → (ts : Terms) → IsReduced k ts → IsReduced k (with_first k mul dual row n ts) × ((p : Point) → IsPoint k p → value mul p (with_first k mul dual row n ts) ≡ bit_xor (value mul p ts) (mul (term_value mul p (row.mono, 1)) (first_sum row p n)))
      with_first_is row is zero low ts reduced = (reduced, λ p at. sym (ap (bit_xor (value mul p ts)) (mul_zero k mul ring (term_value mul p (row.mono, 1))) ∙ xor_zero_r (value mul p ts)))
      with_first_is row is (suc n) low ts reduced =
          let less : n < k = omega arith in
          let c : ℕ = square_of k mul dual row.coefficients.items row.word n in
          let inside : IsElement k c = square_element row n in
          let before = with_first_is row is n (omega arith) ts reduced in
          let after = with_term_is (with_first k mul dual row n ts) (row_term k mul dual row n) before.0 (square_term_is row is n c less inside) in (
            after.0,
            λ p at.
                let t : ℕ = term_value mul p (row.mono, 1) in
                let s : ℕ = mul c (frobenius mul n (slice_index p.words row.word)) in
                after.1 p at
                ∙ ((λ i. bit_xor (before.1 p at i) (square_term_value row is p at n c less inside i))
                ∙ (xor_assoc (value mul p ts) (mul t (first_sum row p n)) (mul t s)
                ∙ ap (bit_xor (value mul p ts)) (sym (ring.distrib t (first_sum row p n) s)))),
          )

      -- terms and those of a row
      pub with_row_is : (row : Row) → IsRow netlist bases k row → (ts : Terms) → IsReduced k ts → IsReduced k (with_first k mul dual row k ts) × ((p : Point) → IsPoint k p → value mul p (with_first k mul dual row k ts) ≡ bit_xor (value mul p ts) (row_value k mul dual p row))
      with_row_is row is ts reduced = with_first_is row is k (omega arith) ts reduced

      with_rows_is : (rows : List Row) → AreRows netlist bases k rows → (ts : Terms) → IsReduced k ts → IsReduced k (with_rows k mul dual rows ts) × ((p : Point) → IsPoint k p → value mul p (with_rows k mul dual rows ts) ≡ bit_xor (value mul p ts) (rows_value k mul dual p rows))
      with_rows_is [] are ts reduced = (reduced, λ p at. sym (xor_zero_r (value mul p ts)))
      with_rows_is (row ∷ rows) are ts reduced =
          let first = with_row_is row are.0 ts reduced in
          let more = with_rows_is rows are.1 (with_first k mul dual row k ts) first.0 in (
            more.0,
            λ p at. more.1 p at ∙ (ap (λ v. bit_xor v (rows_value k mul dual p rows)) (first.1 p at) ∙ xor_assoc (value mul p ts) (row_value k mul dual p row) (rows_value k mul dual p rows)),
          )

      -- the polynomial that is held is reduced
      pub whole_reduced : (sum : RunningSum) → IsHeld netlist bases k sum → IsReduced k (whole k mul dual sum)
      whole_reduced sum is = (with_rows_is sum.rows.items is.rows sum.poly.terms is.reduced).0

      -- and has the values that are held
      pub whole_value : (sum : RunningSum) → IsHeld netlist bases k sum → (p : Point) → IsPoint k p → value mul p (whole k mul dual sum) ≡ held_value k mul dual p sum
      whole_value sum is p at = (with_rows_is sum.rows.items is.rows sum.poly.terms is.reduced).1 p at

      -- where the rows were added to the polynomial
      pub flushed_held : {X E : Type 0} (r : Result X E) (old new : RunningSum) → IsHeld netlist bases k old → OnOk r (new.rows.items ≡ []) → OnOk r (new.poly.terms ≡ whole k mul dual old) → OnOk r (IsHeld netlist bases k new)
      flushed_held (Ok x) old new is none all =
          let P : Terms → Type 0 = IsReduced k in
          let Q : List Row → Type 0 = AreRows netlist bases k in
          record { reduced = subst P (sym all) (whole_reduced old is); rows = subst Q (sym none) tt }
      flushed_held (Err e) old new is none all = tt

      pub flushed_same : {X E : Type 0} (r : Result X E) (old new : RunningSum) → OnOk r (new.rows.items ≡ []) → OnOk r (new.poly.terms ≡ whole k mul dual old) → OnOk r (whole k mul dual new ≡ whole k mul dual old)
      flushed_same (Ok x) old new none all = ap (λ (rows : List Row). with_rows k mul dual rows new.poly.terms) none ∙ all
      flushed_same (Err e) old new none all = tt

      pub reduced_after : {X E : Type 0} (r : Result X E) (new : RunningSum) → OnOk r (IsHeld netlist bases k new) → OnOk r (IsReduced k (whole k mul dual new))
      reduced_after (Ok x) new is = whole_reduced new is
      reduced_after (Err e) new is = tt

    -- where the product with a generator was added
    pub split_added : {X E : Type 0} (r : Result X E) (old new : RunningSum) (factor near : Terms) (form : Option Form) (h : Point → ℕ) → IsHeld netlist bases k old → IsSplit k mul netlist bases h near form → OnOk r (IsHeld netlist bases k new)
        → OnOk r ((p : Point) → IsPoint k p → held_value k mul (dual_of netlist bases) p new ≡ bit_xor (held_value k mul (dual_of netlist bases) p old) (mul (value mul p factor) (bit_xor (value mul p near) (form_value k mul (dual_of netlist bases) p form))))
        → OnOk r ((p : Point) → IsPoint k p → value mul p (whole k mul (dual_of netlist bases) new) ≡ bit_xor (value mul p (whole k mul (dual_of netlist bases) old)) (mul (h p) (value mul p factor)))
    split_added (Ok x) old new factor near form h is split after by = λ p at.
        let dual : ℕ → ℕ → ℕ = dual_of netlist bases in
        whole_value dual new after p at
        ∙ (by p at
        ∙ ((λ j. bit_xor (sym (whole_value dual old is p at) j) (mul (value mul p factor) (split.values p at j)))
        ∙ ap (bit_xor (value mul p (whole k mul dual old))) (ring.comm (value mul p factor) (h p))))
    split_added (Err e) old new factor near form h is split after by = tt
