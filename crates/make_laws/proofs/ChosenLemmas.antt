-- Sums of chosen elements, and numbers by their bits.
use Rattle.std.proofs.Common.{◌≡◌, ℕ, zero, suc, ◌<◌, ◌^◌, ◌+◌, ◌*◌, ◌/◌, ◌%◌, sym, refl, ◌∙◌, ap, ap₂, arith, one-mul, zero-mul, pow-suc, Bool, true, false, List, [], ◌∷◌, length, get_or}
use Rattle.std.specs.Prelude.{bit_xor, ◌==◌, ◌&&◌}
use Rattle.std.specs.Int.{bit_at}
use Rattle.std.specs.Int.Bits.{xor_comm, xor_zero_r, xor_shifted}
use Rattle.std.proofs.lemmas.Nat.Bits.{bit_at_lowest, bit_at-suc}
use Rattle.gf_field.proofs.SharedLemmas.{same_sum, sum_open}
use Rattle.gf_field.specs.Ring.{IsRing}
use Rattle.gf_field.specs.laws.RingLaws.{distrib_left}
use Rattle.gf_field.specs.Polynomial.{sum_of_first}
use Rattle.irreducible.specs.Span.{combination}
use Rattle.irreducible.specs.laws.AdditiveLaws.{IsAdditive, IsAdditive-self, IsAdditive-double, additive_zero}
use Rattle.make_laws.specs.Chosen.{chosen, sum_of_chosen}
use Rattle.make_laws.proofs.BitNumber.{number_of_bits}
use Rattle.make_laws.proofs.RingSumLemmas.{sum_additive}

-- ---- one bit

pub chosen_additive : (h : ℕ → ℕ) → IsAdditive h → (b : Bool) (x : ℕ) → h (chosen b x) ≡ chosen b (h x)
chosen_additive h additive true x = refl
chosen_additive h additive false x = additive_zero h additive

pub chosen_one : (b : Bool) → (chosen b 1 == 1) ≡ b
chosen_one true = refl
chosen_one false = refl

pub chosen_bit : (n : ℕ) → n < 2 → chosen (n == 1) 1 ≡ n
chosen_bit zero h = refl
chosen_bit (suc zero) h = refl
chosen_bit (suc (suc n)) h = absurd (omega arith)

pub chosen_below : (n : ℕ) (b : Bool) (x : ℕ) → 0 < n → x < n → chosen b x < n
chosen_below n true x some h = h
chosen_below n false x some h = some

-- ---- sums
pub chosen_same : (n : ℕ) (a b : ℕ → Bool) (f : ℕ → ℕ) → ((i : ℕ) → i < n → a i ≡ b i) → sum_of_chosen n a f ≡ sum_of_chosen n b f
chosen_same n a b f same = same_sum n (λ i. chosen (a i) (f i)) (λ i. chosen (b i) (f i)) (λ i h. ap (λ c. chosen c (f i)) (same i h))

pub chosen_sum_additive : (h : ℕ → ℕ) → IsAdditive h → (n : ℕ) (a : ℕ → Bool) (f : ℕ → ℕ) → h (sum_of_chosen n a f) ≡ sum_of_chosen n a (λ i. h (f i))
chosen_sum_additive h additive n a f =
    sum_additive h additive n (λ i. chosen (a i) (f i))
    ∙ same_sum n (λ i. h (chosen (a i) (f i))) (λ i. chosen (a i) (h (f i))) (λ i less. chosen_additive h additive (a i) (f i))

-- an additive function's value at a product of two sums, pair by pair
module _ (k : ℕ) (mul : ℕ → ℕ → ℕ) (ring : IsRing k mul) where
  additive_times : (h : ℕ → ℕ) → IsAdditive h → (y : ℕ) → IsAdditive (λ x. h (mul x y))
  additive_times h additive y = record { sum = λ a b. ap h (distrib_left k mul ring a b y) ∙ additive.sum (mul a y) (mul b y) }

  times_additive : (h : ℕ → ℕ) → IsAdditive h → (x : ℕ) → IsAdditive (λ y. h (mul x y))
  times_additive h additive x = record { sum = λ a b. ap h (ring.distrib x a b) ∙ additive.sum (mul x a) (mul x b) }

  pub product_of_sums : (h : ℕ → ℕ) → IsAdditive h → (m n : ℕ) (a b : ℕ → Bool) (f g : ℕ → ℕ) → h (mul (sum_of_chosen m a f) (sum_of_chosen n b g)) ≡ sum_of_first m (λ i. sum_of_first n (λ j. chosen (a i && b j) (h (mul (f i) (g j)))))
  product_of_sums h additive m n a b f g =
      chosen_sum_additive (λ x. h (mul x (sum_of_chosen n b g))) (additive_times h additive (sum_of_chosen n b g)) m a f
      ∙ same_sum m (λ i. chosen (a i) (h (mul (f i) (sum_of_chosen n b g)))) (λ i. sum_of_first n (λ j. chosen (a i && b j) (h (mul (f i) (g j))))) (λ i less. one (a i) (f i))
    where
      inner : (c : Bool) (x : ℕ) (n : ℕ) → chosen c (sum_of_chosen n b (λ j. h (mul x (g j)))) ≡ sum_of_first n (λ j. chosen (c && b j) (h (mul x (g j))))
      inner true x n = refl
      inner false x zero = refl
      inner false x (suc n) = inner false x n ∙ sym (xor_zero_r (sum_of_first n (λ j. 0)))

      one : (c : Bool) (x : ℕ) → chosen c (h (mul x (sum_of_chosen n b g))) ≡ sum_of_first n (λ j. chosen (c && b j) (h (mul x (g j))))
      one c x = ap (chosen c) (chosen_sum_additive (λ y. h (mul x y)) (times_additive h additive x) n b g) ∙ inner c x n

-- ---- numbers by their bits
pub number_below : (n : ℕ) (a : ℕ → Bool) → number_of_bits n a < 2 ^ n
number_below zero a = omega arith
number_below (suc n) a =
    let l : chosen (a 0) 1 < 2 = chosen_below 2 (a 0) 1 (omega arith) (omega arith) in
    let h : number_of_bits n (λ i. a (suc i)) < 2 ^ n = number_below n (λ i. a (suc i)) in
    omega (arith, pow-suc 2 n)

low : (b : Bool) (m : ℕ) → (chosen b 1 + 2 * m) % 2 ≡ chosen b 1
low true m = omega arith
low false m = omega arith

high : (b : Bool) (m : ℕ) → (chosen b 1 + 2 * m) / 2 ≡ m
high true m = omega arith
high false m = omega arith

pub number_bit : (n : ℕ) (a : ℕ → Bool) (i : ℕ) → i < n → (bit_at (number_of_bits n a) i == 1) ≡ a i
number_bit zero a i h = absurd (omega arith)
number_bit (suc n) a zero h =
    ap (λ x. x == 1) (bit_at_lowest (number_of_bits (suc n) a) ∙ low (a 0) (number_of_bits n (λ i. a (suc i)))) ∙ chosen_one (a 0)
number_bit (suc n) a (suc i) h =
    ap (λ x. x == 1) (bit_at-suc (number_of_bits (suc n) a) i ∙ ap (λ x. bit_at x i) (high (a 0) (number_of_bits n (λ i. a (suc i)))))
    ∙ number_bit n (λ i. a (suc i)) i (omega arith)

times_row : (b : Bool) (r : ℕ) → chosen b 1 * r ≡ chosen b r
times_row true r = one-mul r
times_row false r = zero-mul r

-- the sum of the rows at the places whose bit is 1
pub combination-chosen : (rows : List ℕ) (a : ℕ → Bool) → combination rows (number_of_bits (length rows) a) ≡ sum_of_chosen (length rows) a (λ i. get_or rows i 0)
combination-chosen [] a = refl
combination-chosen (r ∷ rs) a =
    ap₂ bit_xor
    (ap (λ x. x * r) (low (a 0) (number_of_bits (length rs) (λ i. a (suc i)))) ∙ times_row (a 0) r)
    (ap (combination rs) (high (a 0) (number_of_bits (length rs) (λ i. a (suc i)))) ∙ combination-chosen rs (λ i. a (suc i)))
    ∙ sym (sum_open (length rs) (λ i. chosen (a i) (get_or (r ∷ rs) i 0)))

pub number_same : (n : ℕ) (a b : ℕ → Bool) → ((i : ℕ) → i < n → a i ≡ b i) → number_of_bits n a ≡ number_of_bits n b
number_same zero a b same = refl
number_same (suc n) a b same = ap₂ (λ x m. chosen x 1 + 2 * m) (same 0 (omega arith)) (number_same n (λ i. a (suc i)) (λ i. b (suc i)) (λ i less. same (suc i) (omega arith)))

-- the bits of a number make it
pub number_again : (n d : ℕ) → d < 2 ^ n → number_of_bits n (λ i. bit_at d i == 1) ≡ d
number_again zero d h = omega arith
number_again (suc n) d h =
    ap₂ (λ x m. x + 2 * m) (ap (λ x. chosen (x == 1) 1) (bit_at_lowest d) ∙ chosen_bit (d % 2) (omega arith))
    (number_same n (λ i. bit_at d (suc i) == 1) (λ i. bit_at (d / 2) i == 1) (λ i less. ap (λ x. x == 1) (bit_at-suc d i)) ∙ number_again n (d / 2) (omega (arith, pow-suc 2 n)))
    ∙ halves d
  where
    halves : (d : ℕ) → d % 2 + 2 * (d / 2) ≡ d
    halves d = omega arith

-- a number is the sum of the powers of 2 at its bits
pub number_powers : (n : ℕ) (a : ℕ → Bool) → number_of_bits n a ≡ sum_of_chosen n a (λ i. 2 ^ i)
number_powers zero a = refl
number_powers (suc n) a =
    turned (chosen (a 0) 1) (number_of_bits n (λ i. a (suc i)))
    ∙ sym (xor_shifted (number_of_bits n (λ i. a (suc i))) 1 (chosen (a 0) 1) (chosen_below 2 (a 0) 1 (omega arith) (omega arith)))
    ∙ xor_comm (number_of_bits n (λ i. a (suc i)) * 2) (chosen (a 0) 1)
    ∙ ap (bit_xor (chosen (a 0) 1))
    (ap (λ v. v * 2) (number_powers n (λ i. a (suc i)))
    ∙ chosen_sum_additive (λ v. v * 2) (IsAdditive-double (λ v. v) IsAdditive-self) n (λ i. a (suc i)) (λ i. 2 ^ i)
    ∙ same_sum n (λ i. chosen (a (suc i)) (2 ^ i * 2)) (λ i. chosen (a (suc i)) (2 ^ suc i)) (λ i less. ap (chosen (a (suc i))) (sym (pow-suc 2 i))))
    ∙ sym (sum_open n (λ i. chosen (a i) (2 ^ i)))
  where
    turned : (b m : ℕ) → b + 2 * m ≡ m * 2 + b
    turned b m = omega arith
