-- Laws of numbers.
use Rattle.std.proofs.Common.{◌≡◌, ◌≢◌, ◌⊎◌, ◌∙◌, ap, sym, inl, inr, ℕ, zero, suc, ◌<◌, ◌≤◌, ◌+◌, ◌-◌, ◌*◌, ◌/◌, ◌%◌, Bool, true, false, cond, refl, arith, mul_comm, mul_assoc}
use Rattle.std.specs.Prelude.{◌==◌}
use Rattle.std.proofs.Math.Nat.{add-mul, mul-suc, mul-le-mul_left, mul-le-mul_right}
use Rattle.std.proofs.lemmas.Bool.Decides.{eqb_tells}

-- ---- sums with 0 and 1

pub self_plus_zero : (n : ℕ) → n ≡ n + 0
self_plus_zero n = omega arith

pub self_zero_plus : (n : ℕ) → n ≡ 0 + n
self_zero_plus n = omega arith

pub suc_is_plus_one : (n : ℕ) → suc n ≡ n + 1
suc_is_plus_one n = omega arith

pub suc_less_one : (n : ℕ) → suc n - 1 ≡ n
suc_less_one n = omega arith

pub once_plus_zero : (n : ℕ) → n ≡ 1 * n + 0
once_plus_zero n = omega arith

pub at_most_once : (n : ℕ) → n ≤ 1 * n
at_most_once n = omega arith

-- ---- differences

pub less_and_back : (m n : ℕ) → m ≤ n → m + (n - m) ≡ n
less_and_back m n less = omega arith

pub parted : (n m : ℕ) → m ≤ n → n ≡ (n - m) + m
parted n m less = omega arith

pub less_twice_64 : (n : ℕ) → n ≤ 64 → 64 - (64 - n) ≡ n
less_twice_64 n few = omega arith

pub parts_of_64 : (n : ℕ) → n ≤ 64 → 64 ≡ (64 - n) + n
parts_of_64 n few = omega arith

-- ---- orders

-- neither is below the other
pub even : (m n : ℕ) → (m < n → ⊥) → (n < m → ⊥) → m ≡ n
even m n f g = omega (arith, f, g)

pub nat_eq_or : (a b : ℕ) → (a ≡ b) ⊎ (a ≢ b)
nat_eq_or a b = elim (eqb_tells a b) [ inl w ↦ inl w.1 | inr w ↦ inr w.1 ]

pub below_differs : (m n : ℕ) → m < n → m ≡ n → ⊥
below_differs m n less same = omega arith

-- ---- products

pub twice_is_sum : (n : ℕ) → n * 2 ≡ n + n
twice_is_sum n = omega arith

pub below_twice : (n : ℕ) → 1 ≤ n → n < n * 2
below_twice n some = omega arith

pub below_times : (n d : ℕ) → 1 ≤ n → n < n * suc (suc d)
below_times n d some = omega (arith, some, mul-suc n (suc d), mul-suc n d)

pub times_positive : (n d : ℕ) → 1 ≤ n → 0 < n * suc (suc d)
times_positive n d some = omega (arith, below_times n d some)

pub one_more_times : (a m : ℕ) → a * (1 + 2 * m) ≡ a + 2 * a * m
one_more_times a m = omega (arith, add-mul a a m, one, two)
  where
    one : a * (1 + 2 * m) ≡ a * (2 * m) + a
    one = ap (λ n. a * n) (step m) ∙ mul-suc a (2 * m)
      where
        step : (n : ℕ) → 1 + 2 * n ≡ suc (2 * n)
        step n = omega arith

    two : a * (2 * m) ≡ 2 * a * m
    two = sym (mul_assoc a 2 m) ∙ ap (λ n. n * m) (mul_comm a 2)

pub mul_few : (a b c d : ℕ) → a ≤ c → b ≤ d → a * b ≤ c * d
mul_few a b c d first second = omega (arith, mul-le-mul_left a second, mul-le-mul_right d first)

pub square_few : (k : ℕ) → k ≤ 64 → k * k ≤ 4096
square_few k few = mul_few k k 64 64 few few

-- a place of a square of k rows of k places
pub place_below : (k i j : ℕ) → i < k → j < k → i * k + j < k * k
place_below k i j row place = omega (arith, mul_few (i + 1) k k k (omega (arith, row)) (omega arith), one_more i k)
  where
    one_more : (n m : ℕ) → (n + 1) * m ≡ n * m + m
    one_more n m = omega arith

pub grouped_times : (x b p v c : ℕ) → x * (b * p) + (v * b + c) ≡ (x * p + v) * b + c
grouped_times x b p v c = let e : x * (b * p) ≡ x * p * b = ap (λ q. x * q) (mul_comm b p) ∙ sym (mul_assoc x p b) in omega (arith, e, add-mul (x * p) v b)

pub times_one_is : (x b p : ℕ) → b ≡ 1 → x * b + 0 ≡ 0 * p + x
times_one_is x b p one = let e : x * b ≡ x * 1 = ap (λ n. x * n) one in omega (arith, e)

-- ---- halves

pub half_of_even : (v : ℕ) → v % 2 ≡ 0 → v / 2 * 2 ≡ v
half_of_even v even_v = omega arith

pub lowest_of : (w t : ℕ) → t < 2 → (w * 2 + t) % 2 ≡ t
lowest_of w t bit = omega arith

pub rest_of_bits : (w t : ℕ) → t < 2 → (w * 2 + t) / 2 ≡ w
rest_of_bits w t bit = omega arith

pub lowest_of_choice : (b : Bool) (m : ℕ) → ◌≡◌ {A = ℕ} ((cond b 1 0 + 2 * m) % 2) (cond b 1 0)
lowest_of_choice true m = omega arith
lowest_of_choice false m = omega arith

pub rest_of_choice : (b : Bool) (m : ℕ) → (cond b 1 0 + 2 * m) / 2 ≡ m
rest_of_choice true m = omega arith
rest_of_choice false m = omega arith

pub lowest_times : (b : Bool) (m r : ℕ) → (cond b 1 0 + 2 * m) % 2 * r ≡ cond b r 0
lowest_times true m r = let one : (1 + 2 * m) % 2 ≡ 1 = omega arith in ap (λ c. c * r) one ∙ (let e : 1 * r ≡ r = omega arith in e)
lowest_times false m r = let none : (0 + 2 * m) % 2 ≡ 0 = omega arith in ap (λ c. c * r) none ∙ (let e : 0 * r ≡ 0 = omega arith in e)

-- ---- numbers of one bit

pub bit_cases : (a : ℕ) → a < 2 → (a ≡ 0) ⊎ (a ≡ 1)
bit_cases zero h = inl refl
bit_cases (suc zero) h = inr refl
bit_cases (suc (suc a)) h = absurd (omega arith)

pub bit_is_choice : (b : ℕ) → b < 2 → b ≡ cond (b == 1) 1 0
bit_is_choice zero less = refl
bit_is_choice (suc zero) less = refl
bit_is_choice (suc (suc b)) less = absurd (omega (arith, less))
