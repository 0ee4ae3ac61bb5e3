-- Sums, products and powers of functions that have polynomials have polynomials.
use Rattle.std.proofs.Common.{◌≡◌, ◌≢◌, ◌∙◌, ap, sym, refl, ℕ, zero, suc, ◌<◌, ◌≤◌, ◌-◌, ◌^◌, cond, [], ◌∷◌, bit_xor, arith}
use Rattle.std.specs.Prelude.{slice_index, set}
use Rattle.std.specs.List.{AllByRecursion}
use lib.Bits.{xor_zero_l, xor_zero_r, xor_assoc, xor_self, xor_lt}
use Rattle.gf_field.specs.Ring.{IsRing}
use Rattle.gf_field.specs.Field.{HasNoZeroDivisors}
use Rattle.gf_field.specs.Power.{power}
use Rattle.poly_mixed.specs.Monomial.{Monomial, text_cmp}
use Rattle.poly_mixed.specs.Sum.{plus, with_coefficient}
use Rattle.poly_mixed.specs.Product.{times, AddsProduct}
use Rattle.poly_mixed.specs.Polynomial.{Terms, Point, IsPoint, IsTerm, IsReduced, IsPolynomialOf, term_value, value}
use Rattle.poly_mixed.proofs.FieldLaws.{IsField, field_of}
use Rattle.poly_mixed.proofs.ValueLemmas.{one_element, zero_element, power_element, product_zero, product_by_zero, value-plus, reduced_plus}
use Rattle.poly_mixed.proofs.ProductLemmas.{term-times, term_value-times, product_nonzero, term_value_element, value_element, one_term}
use Rattle.poly_mixed.proofs.SimpleLemmas.{zeros8, no_ranks_rise, one_rank_rises, reduced_nothing, bits_polynomial, single}
use Rattle.poly_mixed.proofs.PowerLemmas.{power_polynomial}
use Rattle.poly_mixed.proofs.SharedLemmas.{element_in}

-- the function has a polynomial
abbrev pub HasPolynomial : ℕ → (ℕ → ℕ → ℕ) → (Point → ℕ) → Type 0
HasPolynomial k mul h = (ts : Terms) × IsPolynomialOf k mul h ts

-- 1 where word n is a, and 0 elsewhere
abbrev pub delta : ℕ → (ℕ → ℕ → ℕ) → ℕ → ℕ → ℕ
delta k mul x a = bit_xor 1 (power mul (bit_xor x a) (2 ^ k - 1))

module _ (k : ℕ) (mul : ℕ → ℕ → ℕ) (ring : IsRing k mul) (field : HasNoZeroDivisors k mul) where
  f : IsField k mul
  f = field_of k mul ring field

  pub some_sum : (g h : Point → ℕ) → HasPolynomial k mul g → HasPolynomial k mul h → HasPolynomial k mul (λ p. bit_xor (g p) (h p))
  some_sum g h a b = (
    plus text_cmp a.0 b.0,
    record { reduced = reduced_plus f a.0 b.0 a.1.reduced b.1.reduced; values = λ p at. value-plus f p at a.0 b.0 a.1.reduced.terms b.1.reduced.terms ∙ (λ i. bit_xor (a.1.values p at i) (b.1.values p at i)) },
  )

  -- one term times a polynomial, added to another
  multiple : (t : Monomial × ℕ) (us old : Terms) → IsTerm k t → t.1 ≢ 0 → AllByRecursion (IsTerm k) us → AllByRecursion (λ u. u.1 ≢ 0) us → IsReduced k old → (new : Terms) × IsReduced k new × AddsProduct k mul t us old new
  multiple t [] old is some all nonzero r =
      (old, r, λ p at. sym (ap (bit_xor (value mul p old)) (product_by_zero f (term_value mul p t) (term_value_element f p at t is.element)) ∙ xor_zero_r (value mul p old)))
  multiple t (u ∷ us) old is some all nonzero r =
      let made : Monomial × ℕ = (times k t.0 u.0, mul t.1 u.1) in
      let term : IsTerm k made = term-times f t.0 u.0 t.1 u.1 is all.0 in
      let kept : made.1 ≢ 0 = product_nonzero f t.1 u.1 is.element all.0.element some nonzero.0 in
      let more : Terms = plus text_cmp old (made ∷ []) in
      let rest = multiple t us more is some all.1 nonzero.1 (reduced_plus f old (made ∷ []) r (one_term f made.0 made.1 term kept)) in (
        rest.0,
        rest.1,
        λ p at.
            let x = term_value mul p t in
            let y = term_value mul p u in
            let v = value mul p us in
            let o = value mul p old in
            let added : value mul p more ≡ bit_xor o (mul x y) =
            value-plus f p at old (made ∷ []) r.terms (term, tt)
            ∙ ap (bit_xor o) (xor_zero_r (term_value mul p made) ∙ term_value-times f p at t.0 u.0 t.1 u.1 is.element all.0.element (is.monomial.words ∙ sym all.0.monomial.words)) in
            rest.2 p at ∙ (ap (λ z. bit_xor z (mul x v)) added ∙ (xor_assoc o (mul x y) (mul x v) ∙ ap (bit_xor o) (sym (ring.distrib x y v)))),
      )

  -- a polynomial times another, added to a third
  multiples : (us vs old : Terms) → AllByRecursion (IsTerm k) us → AllByRecursion (λ u. u.1 ≢ 0) us → IsReduced k vs → IsReduced k old
      → (new : Terms) × IsReduced k new × ((p : Point) → IsPoint k p → value mul p new ≡ bit_xor (value mul p old) (mul (value mul p us) (value mul p vs)))
  multiples [] vs old all nonzero rv r = (old, r, λ p at. sym (ap (bit_xor (value mul p old)) (product_zero f (value mul p vs) (value_element f p at vs rv.terms)) ∙ xor_zero_r (value mul p old)))
  multiples (t ∷ us) vs old all nonzero rv r =
      let one = multiple t vs old all.0 nonzero.0 rv.terms rv.is_map.nonzero r in
      let rest = multiples us vs one.0 all.1 nonzero.1 rv one.1 in (
        rest.0,
        rest.1,
        λ p at.
            let x = term_value mul p t in
            let u = value mul p us in
            let w = value mul p vs in
            let o = value mul p old in
            rest.2 p at ∙ (ap (λ z. bit_xor z (mul u w)) (one.2 p at) ∙ (xor_assoc o (mul x w) (mul u w) ∙ ap (bit_xor o) (sym (spread x u w)))),
      )
    where
      spread : (x y z : ℕ) → mul (bit_xor x y) z ≡ bit_xor (mul x z) (mul y z)
      spread x y z = ring.comm (bit_xor x y) z ∙ (ring.distrib z x y ∙ (λ i. bit_xor (ring.comm z x i) (ring.comm z y i)))

  pub some_product : (g h : Point → ℕ) → HasPolynomial k mul g → HasPolynomial k mul h → HasPolynomial k mul (λ p. mul (g p) (h p))
  some_product g h a b =
      let made = multiples a.0 b.0 [] a.1.reduced.terms a.1.reduced.is_map.nonzero b.1.reduced (reduced_nothing f) in (
        made.0,
        record { reduced = made.1; values = λ p at. made.2 p at ∙ (xor_zero_l (mul (value mul p a.0) (value mul p b.0)) ∙ (λ i. mul (a.1.values p at i) (b.1.values p at i))) },
      )

  pub some_constant : (c : ℕ) → c < 2 ^ k → HasPolynomial k mul (λ p. c)
  some_constant c less =
      let m : Monomial = record { exponents = zeros8; bits = [] } in
      (with_coefficient m c [], bits_polynomial f [] m c (record { terms = with_coefficient m c []; slots = [] }) refl no_ranks_rise less refl)

  pub some_bit : (rank : ℕ) → HasPolynomial k mul (λ p. cond (p.is_one rank) 1 0)
  some_bit rank =
      let m : Monomial = record { exponents = zeros8; bits = rank ∷ [] } in
      let is = bits_polynomial f (rank ∷ []) m 1 (record { terms = with_coefficient m 1 []; slots = [] }) refl (one_rank_rises rank) (one_element f) refl in
      (with_coefficient m 1 [], record { reduced = is.reduced; values = λ p at. is.values p at ∙ single f rank 1 p })

  first_power : (x : ℕ) → x < 2 ^ k → mul 1 (power mul x 1) ≡ x
  unfolding power
  first_power x less = f.neutral (power mul x 1) (power_element f x 1 less) ∙ (f.comm x 1 less (one_element f) ∙ f.neutral x less)

  pub some_word : (w : ℕ) → w < 8 → HasPolynomial k mul (λ p. slice_index p.words w)
  some_word w low =
      let m : Monomial = record { exponents = set zeros8 w 1; bits = [] } in
      let is = power_polynomial f w 1 1 m (record { terms = with_coefficient m 1 []; slots = [] }) low refl (one_element f) (one_element f) refl in
      (with_coefficient m 1 [], record { reduced = is.reduced; values = λ p at. is.values p at ∙ first_power (slice_index p.words w) (element_in k p w at low) })

  pub some_power : (e : ℕ) (g : Point → ℕ) → HasPolynomial k mul g → HasPolynomial k mul (λ p. power mul (g p) e)
  unfolding power
  some_power zero g a = some_constant 1 (one_element f)
  some_power (suc e) g a = some_product g (λ p. power mul (g p) e) a (some_power e g a)

  pub some_delta : (w a : ℕ) → w < 8 → a < 2 ^ k → HasPolynomial k mul (λ p. delta k mul (slice_index p.words w) a)
  some_delta w a low less =
      some_sum (λ p. 1) (λ p. power mul (bit_xor (slice_index p.words w) a) (2 ^ k - 1)) (some_constant 1 (one_element f))
      (some_power (2 ^ k - 1) (λ p. bit_xor (slice_index p.words w) a) (some_sum (λ p. slice_index p.words w) (λ p. a) (some_word w low) (some_constant a less)))

  zero_power : (e : ℕ) → 1 ≤ e → power mul 0 e ≡ 0
  unfolding power
  zero_power zero some = absurd (omega arith)
  zero_power (suc e) some = product_zero f (power mul 0 e) (power_element f 0 e (zero_element f))

  pub delta_here : (a : ℕ) → delta k mul a a ≡ 1
  delta_here a =
      let many : 1 < 2 ^ k = one_element f in
      ap (bit_xor 1) (ap (λ x. power mul x (2 ^ k - 1)) (xor_self a) ∙ zero_power (2 ^ k - 1) (omega arith)) ∙ xor_zero_r 1

  pub delta_elsewhere : (x a : ℕ) → x < 2 ^ k → a < 2 ^ k → x ≢ a → delta k mul x a ≡ 0
  unfolding power
  delta_elsewhere x a hx ha other =
      let y = bit_xor x a in
      let hy : y < 2 ^ k = xor_lt k x a hx ha in
      let z = power mul y (2 ^ k - 1) in
      let hz : z < 2 ^ k = power_element f y (2 ^ k - 1) hy in
      let many : 1 < 2 ^ k = one_element f in
      let next : suc (2 ^ k - 1) ≡ 2 ^ k = omega arith in
      let whole : mul y z ≡ y = ap (power mul y) next ∙ f.fermat y hy in
      let both : mul y (bit_xor 1 z) ≡ 0 = ring.distrib y 1 z ∙ ((λ i. bit_xor (product_one y hy i) (whole i)) ∙ xor_self y) in
      f.cancels y (bit_xor 1 z) hy (xor_lt k 1 z many hz) both (λ e. other (apart e))
    where
      product_one : (y : ℕ) → y < 2 ^ k → mul y 1 ≡ y
      product_one y less = ring.comm y 1 ∙ ring.one y less

      apart : bit_xor x a ≡ 0 → x ≡ a
      apart e = sym (xor_zero_r x) ∙ (ap (bit_xor x) (sym (xor_self a)) ∙ (sym (xor_assoc x a a) ∙ (ap (λ n. bit_xor n a) e ∙ xor_zero_l a)))
