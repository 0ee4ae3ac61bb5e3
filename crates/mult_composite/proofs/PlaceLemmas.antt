-- Places that are counted coefficient by coefficient.
use Rattle.std.proofs.Math.Nat.{suc-mul, mul-suc, add-mul, mul-le-mul_left, mul-le-mul_right, zero-mul}
use Rattle.std.proofs.Common.{◌≡◌, ℕ, zero, suc, sym, ◌∙◌, ap, ap₂, ◌<◌, ◌≤◌, ◌^◌, ◌+◌, ◌*◌, ◌-◌, ◌/◌, ◌%◌, arith, mul_comm}
use Rattle.std.specs.Prelude.{bit_xor}
use Rattle.std.specs.Int.{bit_at}
use Rattle.std.proofs.lemmas.Nat.{div-mul-add, mod-mul-add, div-add-mod', shr-shr, field_of, mod-pow-add}
use Rattle.gf_field.proofs.SharedLemmas.{same_sum}
use Rattle.gf_field.specs.Polynomial.{coefficient, sum_of_first}
use Rattle.make_laws.proofs.RingSumLemmas.{sum_split}

-- a sum over all places is one over the coefficients and then over the bits
pub sum_flat : (m n : ℕ) (f : ℕ → ℕ → ℕ) → sum_of_first (m * n) (λ q. f (q / n) (q % n)) ≡ sum_of_first m (λ i. sum_of_first n (λ j. f i j))
sum_flat zero n f = ap (λ l. sum_of_first l (λ q. f (q / n) (q % n))) (zero-mul n)
sum_flat (suc m) n f =
    ap (λ l. sum_of_first l (λ q. f (q / n) (q % n))) (suc-mul m n)
    ∙ sum_split (m * n) n (λ q. f (q / n) (q % n))
    ∙ ap₂ bit_xor (sum_flat m n f) (same_sum n (λ j. f ((m * n + j) / n) ((m * n + j) % n)) (λ j. f m j) (λ j less. ap₂ f (div-mul-add m n j less) (mod-mul-add m n j less)))

-- the low bits of a number
low_bit : (v n l : ℕ) → l < n → bit_at (v % 2 ^ n) l ≡ bit_at v l
low_bit v n l less =
    ap (λ e. bit_at (v % 2 ^ e) l) (split n l less)
    ∙ ap (λ w. w % 2) (field_of v (n - l - 1 + 1) l)
    ∙ ap (λ w. w % 2) (mod-pow-add (v / 2 ^ l) (n - l - 1) 1)
    ∙ even (v / 2 ^ l / 2 % 2 ^ (n - l - 1)) (v / 2 ^ l)
  where
    split : (n l : ℕ) → l < n → n ≡ n - l - 1 + 1 + l
    split n l less = omega arith

    even : (u w : ℕ) → (u * 2 + w % 2) % 2 ≡ w % 2
    even u w = omega arith

-- a bit of a coefficient
pub coefficient_bit : (n x i l : ℕ) → l < n → bit_at (coefficient n x i) l ≡ bit_at x (n * i + l)
coefficient_bit n x i l less = low_bit (x / 2 ^ (n * i)) n l less ∙ ap (λ w. w % 2) (shr-shr x (n * i) l)

-- a place of a word of m coefficients
pub place_below : (n m i l : ℕ) → i < m → l < n → n * i + l < n * m
place_below n m i l hi hl =
    let whole : n * suc i ≤ n * m = mul-le-mul_left n (omega (arith, hi)) in
    omega (arith, whole, hl, mul-suc n i)

pub place_is : (n p : ℕ) → n * (p / n) + p % n ≡ p
place_is n p = ap (λ u. u + p % n) (mul_comm n (p / n)) ∙ div-add-mod' p n

-- a place of the products of all coefficients
pub pair_place : (n m i j l : ℕ) → i < m → j < m → l < n → (i * m + j) * n + l < m * m * n
pair_place n m i j l hi hj hl =
    let row : suc i * m ≤ m * m = mul-le-mul_right m (omega (arith, hi)) in
    let place : i * m + j < m * m = omega (arith, row, hj, suc-mul i m) in
    let whole : suc (i * m + j) * n ≤ m * m * n = mul-le-mul_right n (omega (arith, place)) in
    omega (arith, whole, hl, suc-mul (i * m + j) n)

-- a place of the sums of pairs
pub sum_place : (n c d l : ℕ) → d < c → l < n → d * n + l < c * n
sum_place n c d l hd hl =
    let whole : suc d * n ≤ c * n = mul-le-mul_right n (omega (arith, hd)) in
    omega (arith, whole, hl, suc-mul d n)

-- a place of the sums for m and more
pub high_place : (n m q : ℕ) → 2 ≤ m → q < (m - 1) * n → m * n + q < (2 * m - 1) * n
high_place n m q some less =
    let both : m + (m - 1) ≡ 2 * m - 1 = omega (arith, some) in
    let whole : (2 * m - 1) * n ≡ m * n + (m - 1) * n = ap (λ c. c * n) (sym both) ∙ add-mul m (m - 1) n in
    omega (arith, whole, less)
