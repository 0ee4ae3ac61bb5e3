-- The sums of the products of coefficients whose places add up to a number.
use Rattle.std.proofs.Common.{◌≡◌, ℕ, suc, refl, sym, ◌∙◌, ap, ◌<◌, ◌≤◌, ◌+◌, ◌-◌, ◌⊎◌, inl, inr, Bool, true, false, arith}
use Rattle.std.specs.Prelude.{bit_xor, if◌then◌else◌}
use Rattle.std.specs.Int.{bit_at}
use Rattle.std.specs.Int.Bits.{xor_zero_r}
use Rattle.std.proofs.lemmas.Bool.{cases_lt}
use Rattle.std.proofs.lemmas.Bool.Decides.{nat_tests}
use Rattle.std.proofs.lemmas.Nat.Bits.{bit_at-zero}
use Rattle.gf_field.proofs.SharedLemmas.{same_sum, sum_zero}
use Rattle.gf_field.specs.Ring.{IsRing}
use Rattle.gf_field.specs.Polynomial.{convolution, sum_of_first}
use Rattle.gf_field.specs.laws.RingLaws.{zero_mul, mul_zero}
use Rattle.gf_field.specs.laws.QuotientLaws.{EndsAt}
use Rattle.gf_field.specs.laws.ConvolutionLaws.{IsSumOverPairs-convolution}
use Rattle.make_laws.proofs.RingSumLemmas.{sum_split}
use Rattle.make_laws.specs.TowerProduct.{adds_to}
use Rattle.make_laws.proofs.SumLemmas.{bit_at-sum_of_first}

-- values that are 0 do not count
pub sum_long : (p r : ℕ) (f : ℕ → ℕ) → ((i : ℕ) → p ≤ i → f i ≡ 0) → sum_of_first (p + r) f ≡ sum_of_first p f
sum_long p r f none =
    sum_split p r f
    ∙ ap (bit_xor (sum_of_first p f)) (sum_zero r (λ i. f (p + i)) (λ i l. none (p + i) (omega arith)))
    ∙ xor_zero_r (sum_of_first p f)

pub adds_cases : (m d i : ℕ) → ((adds_to m d i ≡ true) × (i ≤ d) × (d < i + m)) ⊎ ((adds_to m d i ≡ false) × ((d < i) ⊎ (i + m ≤ d)))
adds_cases m d i = elim (cases_lt i (d + 1)) [
  | inl low ↦ elim (cases_lt d (i + m)) [
    | inl high ↦ inr_true low high
    | inr over ↦ inr (below_false over, inr over)
  ]
  | inr past ↦ inr (past_false past, inl (omega arith))
]
  where
    inr_true : i < d + 1 → d < i + m → ((adds_to m d i ≡ true) × (i ≤ d) × (d < i + m)) ⊎ ((adds_to m d i ≡ false) × ((d < i) ⊎ (i + m ≤ d)))
    inr_true low high = let is : adds_to m d i ≡ true = grind (arith, nat_tests) in inl (is, omega arith, high)

    below_false : i + m ≤ d → adds_to m d i ≡ false
    below_false over = grind (arith, nat_tests)

    past_false : d + 1 ≤ i → adds_to m d i ≡ false
    past_false past = grind (arith, nat_tests)

module _ (n : ℕ) (mul : ℕ → ℕ → ℕ) (ring : IsRing n mul) (m : ℕ) (a b : ℕ → ℕ) (ea : EndsAt m a) (eb : EndsAt m b) where
  -- what place i adds
  abbrev added : ℕ → ℕ → ℕ
  added d i = if adds_to m d i then mul (a i) (b (d - i)) else 0

  added_low : (d i : ℕ) → i < suc d → mul (a i) (b (d - i)) ≡ added d i
  added_low d i h = elim (adds_cases m d i) [
    | inl in_sum ↦ ap (λ t. if t then mul (a i) (b (d - i)) else 0) (sym in_sum.0)
    | inr out ↦ none out.1 ∙ ap (λ t. if t then mul (a i) (b (d - i)) else 0) (sym out.0)
  ]
    where
      none : (d < i) ⊎ (i + m ≤ d) → mul (a i) (b (d - i)) ≡ 0
      none (inl past) = absurd (omega arith)
      none (inr over) = ap (mul (a i)) (eb (d - i) (omega arith)) ∙ mul_zero n mul ring (a i)

  added_past : (d i : ℕ) → suc d ≤ i → added d i ≡ 0
  added_past d i h = elim (adds_cases m d i) [
    | inl in_sum ↦ absurd (omega (arith, in_sum.1, h))
    | inr out ↦ ap (λ t. if t then mul (a i) (b (d - i)) else 0) out.0
  ]

  added_above : (d i : ℕ) → m ≤ i → added d i ≡ 0
  added_above d i h = by (adds_to m d i)
    where
      by : (t : Bool) → (if t then mul (a i) (b (d - i)) else 0) ≡ 0
      by true = ap (λ x. mul x (b (d - i))) (ea i h) ∙ zero_mul n mul ring (b (d - i))
      by false = refl

  -- the sum of the pairs
  pub pairs_sum : (d : ℕ) → convolution mul a b d ≡ sum_of_first m (λ i. if adds_to m d i then mul (a i) (b (d - i)) else 0)
  pairs_sum d =
      IsSumOverPairs-convolution mul a b d
      ∙ same_sum (suc d) (λ i. mul (a i) (b (d - i))) (added d) (added_low d)
      ∙ sym (sum_long (suc d) m (added d) (added_past d))
      ∙ ap (λ x. sum_of_first x (added d)) (turned d m)
      ∙ sum_long m (suc d) (added d) (added_above d)
    where
      turned : (d m : ℕ) → suc d + m ≡ m + suc d
      turned d m = omega arith

  pub pairs_bit : (d l : ℕ) → bit_at (convolution mul a b d) l ≡ sum_of_first m (λ i. if adds_to m d i then bit_at (mul (a i) (b (d - i))) l else 0)
  pairs_bit d l =
      ap (λ x. bit_at x l) (pairs_sum d)
      ∙ bit_at-sum_of_first m (added d) l
      ∙ same_sum m (λ i. bit_at (added d i) l) (λ i. if adds_to m d i then bit_at (mul (a i) (b (d - i))) l else 0) (λ i h. by (adds_to m d i) (mul (a i) (b (d - i))))
    where
      by : (t : Bool) (x : ℕ) → bit_at (if t then x else 0) l ≡ (if t then bit_at x l else 0)
      by true x = refl
      by false x = bit_at-zero l
