-- What relates each point to an element, and looks at its first words and ranks alone, has a polynomial.
use Rattle.std.proofs.Common.{◌≡◌, ◌≢◌, ◌∙◌, ap, sym, refl, subst, inl, inr, ℕ, zero, suc, ◌<◌, ◌≤◌, ◌^◌, ◌%◌, Bool, true, false, cond, List, [], ◌∷◌, length, Some, bit_xor, arith}
use Rattle.std.specs.Prelude.{slice_get, slice_index, set}
use Rattle.std.specs.List.{AllByRecursion}
use Rattle.std.proofs.Math.ListN.{length-set}
use Rattle.std.proofs.Math.Nat.{mod-lt, mod-eq_of_lt}
use Rattle.std.proofs.lemmas.Nat.{pow_pos}
use Rattle.std.proofs.lemmas.Bool.{cases_eq, eq-eqb, ne_eqb}
use lib.Bits.{xor_zero_l, xor_zero_r, xor_lt}
use Rattle.gf_field.specs.Ring.{IsRing}
use Rattle.gf_field.specs.Field.{HasNoZeroDivisors}
use Rattle.poly_mixed.specs.Cofactor.{at_bit}
use Rattle.poly_mixed.specs.Polynomial.{Terms, Point, IsPoint, IsElement, value}
use Rattle.poly_mixed.proofs.FieldLaws.{IsField, field_of}
use Rattle.poly_mixed.proofs.ValueLemmas.{zero_element, product_zero}
use Rattle.poly_mixed.proofs.ProductLemmas.{value_element}
use Rattle.poly_mixed.proofs.SharedLemmas.{element_in}
use Rattle.poly_mixed.proofs.SimpleLemmas.{zeros8, choose}
use Rattle.stage_model.specs.Stage.{IsOfStage}
use Rattle.stage_model.specs.First.{AgreeAtFirst}
use Rattle.stage_model.proofs.SomePolynomialLemmas.{HasPolynomial, delta, delta_here, delta_elsewhere, some_sum, some_product, some_constant, some_bit, some_delta}

-- each point has an element, which depends on the first words and ranks alone
pub record LooksAtFirst (k : ℕ) (stage : Point → ℕ → Type 0) (words ranks : ℕ) : Type 0 where
  pub some : (p : Point) → IsPoint k p → (e : ℕ) × stage p e × (e < 2 ^ k)
  pub alone : (p q : Point) (e : ℕ) → IsPoint k p → IsPoint k q → AgreeAtFirst words ranks p q → stage p e → stage q e

-- the element, or 0 for a greater number
abbrev pub clip : ℕ → ℕ → ℕ
clip k a = a % 2 ^ k

clip_below : (k a : ℕ) → clip k a < 2 ^ k
clip_below k a = mod-lt a (pow_pos k)

clip_small : (k a : ℕ) → a < 2 ^ k → clip k a ≡ a
clip_small k a less = mod-eq_of_lt less

-- the point with this element of one word
abbrev pub at_word : Point → ℕ → ℕ → Point
at_word p w a = record { words = set p.words w a; is_one = p.is_one }

pub set_all : (k : ℕ) (ws : List ℕ) (w a : ℕ) → AllByRecursion (IsElement k) ws → a < 2 ^ k → AllByRecursion (IsElement k) (set ws w a)
set_all k [] w a all less = tt
set_all k (v ∷ ws) zero a all less = (less, all.1)
set_all k (v ∷ ws) (suc w) a all less = (all.0, set_all k ws w a all.1 less)

set_here : (ws : List ℕ) (w a : ℕ) → w < length ws → slice_get (set ws w a) w ≡ Some a
set_here [] w a less = absurd (omega arith)
set_here (v ∷ ws) zero a less = refl
set_here (v ∷ ws) (suc w) a less = set_here ws w a (omega arith)

set_elsewhere : (ws : List ℕ) (w a i : ℕ) → i ≢ w → slice_get (set ws w a) i ≡ slice_get ws i
set_elsewhere [] w a i other = refl
set_elsewhere (v ∷ ws) zero a zero other = absurd (other refl)
set_elsewhere (v ∷ ws) zero a (suc i) other = refl
set_elsewhere (v ∷ ws) (suc w) a zero other = refl
set_elsewhere (v ∷ ws) (suc w) a (suc i) other = set_elsewhere ws w a i (λ e. other (ap suc e))

got_index : (ws : List ℕ) (w : ℕ) → w < length ws → slice_get ws w ≡ Some (slice_index ws w)
got_index [] w less = absurd (omega arith)
got_index (v ∷ ws) zero less = refl
got_index (v ∷ ws) (suc w) less = got_index ws w (omega arith)

pub is_bit_point : (k : ℕ) (p : Point) (r : ℕ) (b : Bool) → IsPoint k p → IsPoint k (at_bit p r b)
is_bit_point k p r b at = record { words = at.words; elements = at.elements }

is_word_point : (k : ℕ) (p : Point) (w a : ℕ) → IsPoint k p → a < 2 ^ k → IsPoint k (at_word p w a)
is_word_point k p w a at less = record { words = length-set p.words w a ∙ at.words; elements = set_all k p.words w a at.elements less }

bit_here : (p : Point) (r : ℕ) (b : Bool) (s : ℕ) → s ≡ r → (at_bit p r b).is_one s ≡ b
bit_here p r b s e = ap (λ c. cond c b (p.is_one s)) (eq-eqb s r e)

pub bit_elsewhere : (p : Point) (r : ℕ) (b : Bool) (s : ℕ) → s ≢ r → (at_bit p r b).is_one s ≡ p.is_one s
bit_elsewhere p r b s n = ap (λ c. cond c b (p.is_one s)) (ne_eqb s r n)

-- one more rank with one bit
agree_bit : (words r : ℕ) (b : Bool) (p q : Point) → AgreeAtFirst words r p q → AgreeAtFirst words (suc r) (at_bit p r b) (at_bit q r b)
agree_bit words r b p q same = record {
  elements = same.elements;
  bits = λ s less. elim (cases_eq s r) [
    | inl e ↦ bit_here p r b s e ∙ sym (bit_here q r b s e)
    | inr n ↦ let low : s < r = omega arith in bit_elsewhere p r b s n ∙ (same.bits s low ∙ sym (bit_elsewhere q r b s n))
  ];
}

own_bit : (words r : ℕ) (b : Bool) (p : Point) → p.is_one r ≡ b → AgreeAtFirst words (suc r) (at_bit p r b) p
own_bit words r b p is = record {
  elements = λ i less. refl;
  bits = λ s less. elim (cases_eq s r) [
    | inl e ↦ bit_here p r b s e ∙ (sym is ∙ ap p.is_one (sym e))
    | inr n ↦ bit_elsewhere p r b s n
  ];
}

-- one more word with one element
agree_word : (w ranks a : ℕ) (p q : Point) → w < length p.words → w < length q.words → AgreeAtFirst w ranks p q → AgreeAtFirst (suc w) ranks (at_word p w a) (at_word q w a)
agree_word w ranks a p q low low' same = record {
  elements = λ i less. elim (cases_eq i w) [
    | inl e ↦ ap (slice_get (set p.words w a)) e ∙ (set_here p.words w a low ∙ (sym (set_here q.words w a low') ∙ ap (slice_get (set q.words w a)) (sym e)))
    | inr n ↦ let small : i < w = omega arith in set_elsewhere p.words w a i n ∙ (same.elements i small ∙ sym (set_elsewhere q.words w a i n))
  ];
  bits = same.bits;
}

own_word : (words ranks w : ℕ) (p : Point) → w < length p.words → AgreeAtFirst words ranks (at_word p w (slice_index p.words w)) p
own_word words ranks w p low = record {
  elements = λ i less. elim (cases_eq i w) [
    | inl e ↦ ap (slice_get (set p.words w (slice_index p.words w))) e ∙ (set_here p.words w (slice_index p.words w) low ∙ (sym (got_index p.words w low) ∙ ap (slice_get p.words) (sym e)))
    | inr n ↦ set_elsewhere p.words w (slice_index p.words w) i n
  ];
  bits = λ s less. refl;
}

module _ (k : ℕ) (mul : ℕ → ℕ → ℕ) (ring : IsRing k mul) (field : HasNoZeroDivisors k mul) where
  f : IsField k mul
  f = field_of k mul ring field

  nowhere : Point
  nowhere = record { words = zeros8; is_one = λ r. false }

  is_nowhere : IsPoint k nowhere
  unfolding nowhere
  is_nowhere = let z = zero_element f in record { words = refl; elements = (z, (z, (z, (z, (z, (z, (z, (z, tt)))))))) }

  -- what looks at nothing is constant
  of_nothing : (stage : Point → ℕ → Type 0) → LooksAtFirst k stage 0 0 → (ts : Terms) × IsOfStage k mul stage ts
  of_nothing stage looks =
      let found = looks.some nowhere is_nowhere in
      let made = some_constant k mul ring field found.0 found.2 in (
        made.0,
        record {
          reduced = made.1.reduced;
          values = λ p at.
              let P : ℕ → Type 0 = λ x. stage p x in
              subst P (sym (made.1.values p at)) (looks.alone nowhere p found.0 is_nowhere at (record { elements = λ i less. absurd (omega arith); bits = λ r less. absurd (omega arith) }) found.1);
        },
      )

  -- zero + bit * (zero + one)
  both_values : (r : ℕ) (off on : Terms) (p : Point) → IsPoint k p → IsElement k (value mul p off) → IsElement k (value mul p on)
      → bit_xor (mul (cond (p.is_one r) 1 0) (bit_xor (value mul p on) (value mul p off))) (value mul p off) ≡ cond (p.is_one r) (value mul p on) (value mul p off)
  both_values r off on p at low high = choose f (p.is_one r) (value mul p off) (value mul p on) (xor_lt k (value mul p on) (value mul p off) high low)

  -- the stage with one bit set
  abbrev with_bit : (Point → ℕ → Type 0) → ℕ → Bool → Point → ℕ → Type 0
  with_bit stage r b p e = stage (at_bit p r b) e

  module _ (r : ℕ) (stage : Point → ℕ → Type 0) (looks : LooksAtFirst k stage 0 (suc r)) where
    still_bits : (b : Bool) → LooksAtFirst k (with_bit stage r b) 0 r
    still_bits b = record {
      some = λ p is. looks.some (at_bit p r b) (is_bit_point k p r b is);
      alone = λ p q e is is' same. looks.alone (at_bit p r b) (at_bit q r b) e (is_bit_point k p r b is) (is_bit_point k q r b is') (agree_bit 0 r b p q same);
    }

    moved : (p : Point) (b : Bool) → IsPoint k p → p.is_one r ≡ b → (x y : ℕ) → x ≡ y → stage (at_bit p r b) y → stage p x
    moved p b is e x y same has =
        let P : ℕ → Type 0 = λ z. stage p z in
        subst P (sym same) (looks.alone (at_bit p r b) p y (is_bit_point k p r b is) is (own_bit 0 r b p e) has)

    one_more_bit : (off : (ts : Terms) × IsOfStage k mul (with_bit stage r false) ts) (on : (ts : Terms) × IsOfStage k mul (with_bit stage r true) ts) → (ts : Terms) × IsOfStage k mul stage ts
    one_more_bit off on =
        let low : HasPolynomial k mul (λ p. value mul p off.0) = (off.0, record { reduced = off.1.reduced; values = λ p is. refl }) in
        let high : HasPolynomial k mul (λ p. value mul p on.0) = (on.0, record { reduced = on.1.reduced; values = λ p is. refl }) in
        let change = some_sum k mul ring field (λ p. value mul p on.0) (λ p. value mul p off.0) high low in
        let product = some_product k mul ring field (λ p. cond (p.is_one r) 1 0) (λ p. bit_xor (value mul p on.0) (value mul p off.0)) (some_bit k mul ring field r) change in
        let made = some_sum k mul ring field (λ p. mul (cond (p.is_one r) 1 0) (bit_xor (value mul p on.0) (value mul p off.0))) (λ p. value mul p off.0) product low in (
          made.0,
          record {
            reduced = made.1.reduced;
            values = λ p is.
                let both : value mul p made.0 ≡ cond (p.is_one r) (value mul p on.0) (value mul p off.0) =
                made.1.values p is ∙ both_values r off.0 on.0 p is (value_element f p is off.0 off.1.reduced.terms) (value_element f p is on.0 on.1.reduced.terms) in
                elim (p.is_one r) as (λ b. p.is_one r ≡ b → stage p (value mul p made.0)) [
                  | true ↦ λ e. moved p true is e (value mul p made.0) (value mul p on.0) (both ∙ ap (λ b. cond b (value mul p on.0) (value mul p off.0)) e) (on.1.values p is)
                  | false ↦ λ e. moved p false is e (value mul p made.0) (value mul p off.0) (both ∙ ap (λ b. cond b (value mul p on.0) (value mul p off.0)) e) (off.1.values p is)
                ] refl;
          },
        )

  of_bits : (ranks : ℕ) (stage : Point → ℕ → Type 0) → LooksAtFirst k stage 0 ranks → (ts : Terms) × IsOfStage k mul stage ts
  of_bits zero stage looks = of_nothing stage looks
  of_bits (suc r) stage looks =
      one_more_bit r stage looks (of_bits r (with_bit stage r false) (still_bits r stage looks false)) (of_bits r (with_bit stage r true) (still_bits r stage looks true))

  -- the sum over the first m elements a of what is picked for a, where the word is a
  abbrev pub interpolation : ℕ → (ℕ → Terms) → ℕ → Point → ℕ
  interpolation w pick zero p = 0
  interpolation w pick (suc m) p = bit_xor (interpolation w pick m p) (mul (delta k mul (slice_index p.words w) m) (value mul p (pick m)))

  some_interpolation : (w : ℕ) (pick : ℕ → Terms) → w < 8 → ((a : ℕ) → HasPolynomial k mul (λ p. value mul p (pick a))) → (m : ℕ) → m ≤ 2 ^ k → HasPolynomial k mul (interpolation w pick m)
  some_interpolation w pick low are zero within = some_constant k mul ring field 0 (zero_element f)
  some_interpolation w pick low are (suc m) within =
      some_sum k mul ring field (interpolation w pick m) (λ p. mul (delta k mul (slice_index p.words w) m) (value mul p (pick m)))
      (some_interpolation w pick low are m (omega arith))
      (some_product k mul ring field (λ p. delta k mul (slice_index p.words w) m) (λ p. value mul p (pick m)) (some_delta k mul ring field w m low (omega arith)) (are m))

  module _ (w : ℕ) (pick : ℕ → Terms) (p : Point) (elements : (a : ℕ) → IsElement k (value mul p (pick a))) (x : ℕ) (is : slice_index p.words w ≡ x) (less : x < 2 ^ k) where
    turned : (m : ℕ) → delta k mul (slice_index p.words w) m ≡ delta k mul x m
    turned m = ap (λ y. delta k mul y m) is

    -- nothing for another element
    other_summand : (m : ℕ) → m < 2 ^ k → x ≢ m → mul (delta k mul (slice_index p.words w) m) (value mul p (pick m)) ≡ 0
    other_summand m small other = ap (λ d. mul d (value mul p (pick m))) (turned m ∙ delta_elsewhere k mul ring field x m less small other) ∙ product_zero f (value mul p (pick m)) (elements m)

    not_yet : (m : ℕ) → m ≤ 2 ^ k → m ≤ x → interpolation w pick m p ≡ 0
    not_yet zero within past = refl
    not_yet (suc m) within past =
        (λ i. bit_xor (not_yet m (omega arith) (omega arith) i) (other_summand m (omega arith) (λ e. omega arith) i)) ∙ xor_zero_l 0

    pub interpolated : (m : ℕ) → m ≤ 2 ^ k → x < m → interpolation w pick m p ≡ value mul p (pick x)
    interpolated zero within low = absurd (omega arith)
    interpolated (suc m) within low =
        elim (cases_eq x m) [
          | inl e ↦
              let one : delta k mul (slice_index p.words w) m ≡ 1 = turned m ∙ (ap (delta k mul x) (sym e) ∙ delta_here k mul ring field x) in
              let summand : mul (delta k mul (slice_index p.words w) m) (value mul p (pick m)) ≡ value mul p (pick x) =
              ap (λ d. mul d (value mul p (pick m))) one ∙ (f.neutral (value mul p (pick m)) (elements m) ∙ ap (λ a. value mul p (pick a)) (sym e)) in
              (λ i. bit_xor (not_yet m (omega arith) (omega (arith, e)) i) (summand i)) ∙ xor_zero_l (value mul p (pick x))
          | inr n ↦
              let small : x < m = omega arith in
              (λ i. bit_xor (interpolated m (omega arith) small i) (other_summand m (omega arith) n i)) ∙ xor_zero_r (value mul p (pick x))
        ]

  -- the stage with one word's element set
  abbrev with_element : (Point → ℕ → Type 0) → ℕ → ℕ → Point → ℕ → Type 0
  with_element stage w a p e = stage (at_word p w (clip k a)) e

  module _ (w ranks : ℕ) (stage : Point → ℕ → Type 0) (few : w < 8) (looks : LooksAtFirst k stage (suc w) ranks) where
    still_words : (a : ℕ) → LooksAtFirst k (with_element stage w a) w ranks
    still_words a = record {
      some = λ p is. looks.some (at_word p w (clip k a)) (is_word_point k p w (clip k a) is (clip_below k a));
      alone = λ p q e is is' same.
          looks.alone (at_word p w (clip k a)) (at_word q w (clip k a)) e (is_word_point k p w (clip k a) is (clip_below k a)) (is_word_point k q w (clip k a) is' (clip_below k a))
          (agree_word w ranks (clip k a) p q (omega (arith, few, is.words)) (omega (arith, few, is'.words)) same);
    }

    one_more_word : ((a : ℕ) → (ts : Terms) × IsOfStage k mul (with_element stage w a) ts) → (ts : Terms) × IsOfStage k mul stage ts
    one_more_word picked =
        let pick : ℕ → Terms = λ a. (picked a).0 in
        let made = some_interpolation w pick few (λ a. ((picked a).0, record { reduced = (picked a).1.reduced; values = λ p is. refl })) (2 ^ k) (omega arith) in (
          made.0,
          record {
            reduced = made.1.reduced;
            values = λ p is.
                let x = slice_index p.words w in
                let less : x < 2 ^ k = element_in k p w is few in
                let low : w < length p.words = omega (arith, few, is.words) in
                let same : value mul p made.0 ≡ value mul p (picked x).0 =
                made.1.values p is ∙ interpolated w pick p (λ a. value_element f p is (picked a).0 (picked a).1.reduced.terms) x refl less (2 ^ k) (omega arith) less in
                let P : ℕ → Type 0 = λ y. stage p y in
                let Q : ℕ → Type 0 = λ a. stage (at_word p w a) (value mul p (picked x).0) in
                let there : stage (at_word p w x) (value mul p (picked x).0) = subst Q (clip_small k x less) ((picked x).1.values p is) in
                subst P (sym same) (looks.alone (at_word p w x) p (value mul p (picked x).0) (is_word_point k p w x is less) is (own_word (suc w) ranks w p low) there);
          },
        )

  -- in words and bits
  pub of_first : (words ranks : ℕ) (stage : Point → ℕ → Type 0) → words ≤ 8 → LooksAtFirst k stage words ranks → (ts : Terms) × IsOfStage k mul stage ts
  of_first zero ranks stage few looks = of_bits ranks stage looks
  of_first (suc w) ranks stage few looks = one_more_word w ranks stage (omega arith) looks (λ a. of_first w ranks (with_element stage w a) (omega arith) (still_words w ranks stage (omega arith) looks a))
