-- Polynomials of one term in bits, and the steps of a table.
use Rattle.std.proofs.Common.{◌≡◌, ℕ, zero, suc, ◌+◌, ◌-◌, ◌*◌, ◌^◌, ◌≤◌, mul_comm, mul_assoc, ◌/◌, take, drop, get_or, Bool, true, false, cond, ◌&&◌, ◌==◌, List, [], ◌∷◌, length, bit_xor, IfOk, Result, Ok, Err, refl, sym, ◌∙◌, ap, subst, arith}
use Rattle.std.proofs.lemmas.Nat.Bits.{shr_and_one, bit_at-lt}
use Rattle.std.specs.Int.{bit_at}
use Rattle.std.specs.Prelude.{bit_and}
use lib.Bits.{xor_zero_l, xor_zero_r, xor_self, xor_assoc}
use Rattle.std.proofs.lemmas.Bool.{eqb-true, eqb-false}
use Rattle.std.specs.Ordering.{nat_cmp}
use Rattle.std.specs.List.{list_all}
use Rattle.std.specs.List.Sorted.{IsStrictlySortedBy}
use Rattle.std.specs.Map.{keys_of}
use Rattle.lists.specs.laws.NumberLaws.{bit_is_choice, one_more_times}
use Rattle.poly_mixed.specs.Polynomial.{IsElement}
use Rattle.poly_mixed.proofs.FieldLaws.{IsField}
use Rattle.poly_mixed.specs.Monomial.{Monomial, text_cmp}
use Rattle.poly_mixed.specs.Polynomial.{Polynomial, Terms, Point, IsPoint, IsMonomial, IsReduced, term_value, value}
use Rattle.poly_mixed.specs.Sum.{with_coefficient}
use Rattle.poly_mixed.specs.Table.{index, table_bit}
use Rattle.poly_mixed.specs.Product.{IsProduct}
use Rattle.poly_mixed.specs.private.Choice.{IsBitTimes, IsChoice}
use Rattle.poly_mixed.specs.laws.Uniqueness.{IsZeros}
use Rattle.poly_mixed.specs.Polynomial.{IsPolynomialOf}
use Rattle.poly_mixed.proofs.ValueLemmas.{one_element, zero_element, product_zero}
use Rattle.poly_mixed.proofs.ProductLemmas.{one_term, value_element}
use Rattle.poly_mixed.proofs.UniquenessLemmas.{zero_powers}

pub no_ranks_rise : IsStrictlySortedBy nat_cmp []
unfolding IsStrictlySortedBy
no_ranks_rise = tt

pub one_rank_rises : (r : ℕ) → IsStrictlySortedBy nat_cmp (r ∷ [])
unfolding IsStrictlySortedBy
one_rank_rises r = (tt, tt)

nothing_sorted : IsStrictlySortedBy text_cmp (keys_of {K = Monomial} {X = ℕ} [])
unfolding IsStrictlySortedBy
nothing_sorted = tt

module _ {degree : ℕ} {mul : ℕ → ℕ → ℕ} (f : IsField degree mul) where
  pub reduced_nothing : IsReduced degree []
  reduced_nothing = record { is_map = record { sorted = nothing_sorted; rising = tt; nonzero = tt }; terms = tt }

  in_bits_value : (c : ℕ) (m : Monomial) (p : Point) → IsElement degree c → IsZeros m.exponents → term_value mul p (m, c) ≡ cond (list_all p.is_one m.bits) c 0
  in_bits_value c m p e z =
      ap (λ x. cond (list_all p.is_one m.bits) x 0)
      (ap (mul c) (zero_powers f m.exponents p.words z) ∙ f.comm c 1 e (one_element f) ∙ f.neutral c e)

  pub one_simple : (c : ℕ) (m : Monomial) → IsElement degree c → IsMonomial degree m → IsZeros m.exponents → IsPolynomialOf degree mul (λ p. cond (list_all p.is_one m.bits) c 0) (with_coefficient m c [])
  one_simple c m e im z =
      elim (c == 0) as (λ b. (c == 0) ≡ b → IsPolynomialOf degree mul (λ p. cond (list_all p.is_one m.bits) c 0) (cond b [] ((m, c) ∷ []))) [
        | true ↦ λ h. record {
          reduced = reduced_nothing;
          values = λ p at. let n : c ≡ 0 = eqb-true c 0 h in sym (ap (λ x. cond (list_all p.is_one m.bits) x 0) n ∙ elim (list_all p.is_one m.bits) as (λ v. ◌≡◌ {A = ℕ} (cond v 0 0) 0) [ true ↦ refl | false ↦ refl ]);
        }
        | false ↦ λ h. record {
          reduced = one_term f m c (record { monomial = im; element = e }) (eqb-false c 0 h);
          values = λ p at. xor_zero_r (term_value mul p (m, c)) ∙ in_bits_value c m p e z;
        }
      ] refl

  -- low plus the bit times the sum of both is low or high
  pub choose : (b : Bool) (low high : ℕ) → IsElement degree (bit_xor high low) → bit_xor (mul (cond b 1 0) (bit_xor high low)) low ≡ cond b high low
  choose true low high e = ap (λ n. bit_xor n low) (f.neutral (bit_xor high low) e) ∙ xor_assoc high low low ∙ ap (bit_xor high) (xor_self low) ∙ xor_zero_r high
  choose false low high e = ap (λ n. bit_xor n low) (product_zero f (bit_xor high low) e) ∙ xor_zero_l low

-- ---- the recursion over the ranks

abbrev pub zeros8 : List ℕ
zeros8 = 0 ∷ 0 ∷ 0 ∷ 0 ∷ 0 ∷ 0 ∷ 0 ∷ 0 ∷ []

module _ {degree : ℕ} {mul : ℕ → ℕ → ℕ} (f : IsField degree mul) where
  pub same_function : (h k : Point → ℕ) (ts : Terms) → ((p : Point) → h p ≡ k p) → IsPolynomialOf degree mul h ts → IsPolynomialOf degree mul k ts
  same_function h k ts e is = record { reduced = is.reduced; values = λ p at. is.values p at ∙ e p }

  pub bits_monomial : (rs : List ℕ) (m : Monomial) → m ≡ record { exponents = zeros8; bits = rs } → IsStrictlySortedBy nat_cmp rs → IsMonomial degree m
  bits_monomial rs m e up =
      let P : Monomial → Type 0 = IsMonomial degree in
      let z = zero_element f in
      let is : IsMonomial degree (record { exponents = zeros8; bits = rs }) = record { words = refl; exponents = (z, (z, (z, (z, (z, (z, (z, (z, tt)))))))); rising = up } in
      subst P (sym e) is

  pub bits_polynomial : (rs : List ℕ) (m : Monomial) (c : ℕ) (q : Polynomial) → m ≡ record { exponents = zeros8; bits = rs } → IsStrictlySortedBy nat_cmp rs → IsElement degree c → q.terms ≡ with_coefficient m c [] → IsPolynomialOf degree mul (λ p. cond (list_all p.is_one rs) c 0) q.terms
  bits_polynomial rs m c q e up ec is =
      let P : Terms → Type 0 = IsPolynomialOf degree mul (λ p. cond (list_all p.is_one rs) c 0) in
      let Q : Monomial → Type 0 = λ m. IsPolynomialOf degree mul (λ p. cond (list_all p.is_one rs) c 0) (with_coefficient m c []) in
      let n : Monomial = record { exponents = zeros8; bits = rs } in
      subst P (sym is) (subst Q (sym e) (one_simple f c n ec (bits_monomial rs n refl up) (refl, (refl, (refl, (refl, (refl, (refl, (refl, (refl, tt))))))))))

  pub single : (rank c : ℕ) (p : Point) → cond (list_all p.is_one (rank ∷ [])) c 0 ≡ cond (p.is_one rank) c 0
  single rank c p = elim (p.is_one rank) as (λ b. cond (b && true) c 0 ≡ cond b c 0) [ true ↦ refl | false ↦ refl ]

  -- the last bit of a number that was shifted down
  pub leaf : (table base : ℕ) → bit_and (table / 2 ^ base) 1 ≡ cond (table_bit table base) 1 0
  leaf table base = shr_and_one table base ∙ bit_is_choice (bit_at table base) (bit_at-lt table base)

  pub leaf_element : (table base : ℕ) → IsElement degree (bit_and (table / 2 ^ base) 1)
  leaf_element table base =
      let P : ℕ → Type 0 = IsElement degree in
      subst P (sym (leaf table base)) (elim (table_bit table base) as (λ b. IsElement degree (cond b 1 0)) [ true ↦ one_element f | false ↦ zero_element f ])

  pub index_first : (base step : ℕ) (bit : ℕ → Bool) (r : ℕ) (rs : List ℕ) → base + step * index bit (r ∷ rs) ≡ cond (bit r) (base + step) base + 2 * step * index bit rs
  index_first base step bit r rs =
      elim (bit r) as (λ b. base + step * (cond b 1 0 + 2 * index bit rs) ≡ cond b (base + step) base + 2 * step * index bit rs) [
        | true ↦ ap (λ n. base + n) (one_more_times step (index bit rs)) ∙ omega arith
        | false ↦ ap (λ n. base + n) (zero_first step (index bit rs))
      ]
    where
      zero_first : (s i : ℕ) → s * (0 + 2 * i) ≡ 2 * s * i
      zero_first s i = ap (λ n. s * n) (omega arith) ∙ sym (mul_assoc s 2 i) ∙ ap (λ n. n * i) (mul_comm s 2)

  -- the product of a bit and a polynomial
  pub bit_product : (rank : ℕ) (bit change product : Terms) → IsPolynomialOf degree mul (λ p. cond (p.is_one rank) 1 0) bit → IsProduct degree mul product bit change → IsBitTimes degree mul rank change product
  bit_product rank bit change product is times = λ p at. times p at ∙ ap (λ n. mul n (value mul p change)) (is.values p at)

  -- low and the bit's part of the sum of both
  pub chosen : (rank : ℕ) (low high sum product out : Terms)
      → IsReduced degree sum → ((p : Point) → IsPoint degree p → value mul p sum ≡ bit_xor (value mul p high) (value mul p low))
      → IsBitTimes degree mul rank sum product
      → ((p : Point) → IsPoint degree p → value mul p out ≡ bit_xor (value mul p product) (value mul p low))
      → IsChoice degree mul rank low high out
  chosen rank low high sum product out rsum vsum vprod vout = λ p at.
      let l = value mul p low in
      let h = value mul p high in
      let es : IsElement degree (bit_xor h l) = (let P : ℕ → Type 0 = IsElement degree in subst P (vsum p at) (value_element f p at sum rsum.terms)) in
      vout p at ∙ ap (λ n. bit_xor n l) (vprod p at ∙ ap (λ n. mul (cond (p.is_one rank) 1 0) n) (vsum p at)) ∙ choose f (p.is_one rank) l h es

  -- the whole turn: low and high are of the two halves of a table
  pub turn : (table base step r : ℕ) (rs : List ℕ) (low high out : Terms)
      → IsPolynomialOf degree mul (λ p. cond (table_bit table (base + 2 * step * index p.is_one rs)) 1 0) low
      → IsPolynomialOf degree mul (λ p. cond (table_bit table (base + step + 2 * step * index p.is_one rs)) 1 0) high
      → IsReduced degree out → IsChoice degree mul r low high out
      → IsPolynomialOf degree mul (λ p. cond (table_bit table (base + step * index p.is_one (r ∷ rs))) 1 0) out
  turn table base step r rs low high out lo hi rout choice = record {
    reduced = rout;
    values = λ p at.
        choice p at
        ∙ (λ i. cond (p.is_one r) (hi.values p at i) (lo.values p at i))
        ∙ elim (p.is_one r) as (λ b. ◌≡◌ {A = ℕ} (cond b (cond (table_bit table (base + step + 2 * step * index p.is_one rs)) 1 0) (cond (table_bit table (base + 2 * step * index p.is_one rs)) 1 0)) (cond (table_bit table (cond b (base + step) base + 2 * step * index p.is_one rs)) 1 0)) [ true ↦ refl | false ↦ refl ]
        ∙ ap (λ n. cond (table_bit table n) 1 0) (sym (index_first base step p.is_one r rs));
  }

  -- and where it comes out at all
  pub turned : {E : Type 0} (table base step r : ℕ) (rs : List ℕ) (low high : Terms) (result : Result Polynomial E)
      → IsPolynomialOf degree mul (λ p. cond (table_bit table (base + 2 * step * index p.is_one rs)) 1 0) low
      → IsPolynomialOf degree mul (λ p. cond (table_bit table (base + step + 2 * step * index p.is_one rs)) 1 0) high
      → IfOk result (λ q. IsReduced degree q.terms) → IfOk result (λ q. IsChoice degree mul r low high q.terms)
      → IfOk result (λ q. IsPolynomialOf degree mul (λ p. cond (table_bit table (base + step * index p.is_one (r ∷ rs))) 1 0) q.terms)
  turned table base step r rs low high (Ok q) lo hi reduced choice = turn table base step r rs low high q.terms lo hi reduced choice
  turned table base step r rs low high (Err e) lo hi reduced choice = tt

take_whole : (rs : List ℕ) (n : ℕ) → n ≡ length rs → take n rs ≡ rs
take_whole [] zero e = refl
take_whole [] (suc n) e = refl
take_whole (r ∷ rs) zero e = absurd (omega arith)
take_whole (r ∷ rs) (suc n) e = ap (λ xs. r ∷ xs) (take_whole rs n (omega arith))

pub first_and_rest : (rs : List ℕ) → 1 ≤ length rs → rs ≡ get_or rs 0 0 ∷ take (length rs - 1) (drop 1 rs)
first_and_rest [] l = absurd (omega arith)
first_and_rest (r ∷ rs) l = ap (λ xs. r ∷ xs) (sym (take_whole rs (length (r ∷ rs) - 1) (omega arith)))
