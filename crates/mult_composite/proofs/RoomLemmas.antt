-- How many nets there are, and other bounds.
use Rattle.std.proofs.Math.Nat.{mul-le-mul_left, mul-le-mul_right, mul-suc}
use Rattle.std.proofs.Common.{◌≡◌, ◌∙◌, ℕ, ap, sym, ◌<◌, ◌≤◌, ◌+◌, ◌*◌, ◌-◌, ◌^◌, ◌/◌, ◌%◌, arith, mul_comm}
use Rattle.std.specs.Prelude.{bit_and}
use Rattle.std.proofs.lemmas.Nat.{and_mask, pow_below}
use Rattle.std.proofs.lemmas.Nat.Bits.{ones_shr}
use Rattle.lists.specs.laws.NumberLaws.{mul_few, square_few as pairs_few}

pub square_few : (n : ℕ) → n ≤ 32 → n * n ≤ 1024
square_few n small = mul_few n n 32 32 small small

-- so many nets more
pub square_more : (k old new : ℕ) → k ≤ 32 → new ≡ old + k * k → new ≤ old + 2 ^ 10
square_more k old new small is = omega (arith, is, square_few k small)

pub sums_few : (n m : ℕ) → n ≤ 32 → m ≤ 64 → (2 * m - 1) * n ≤ 4064
sums_few n m small few = mul_few (2 * m - 1) n 127 32 (omega arith) small

pub high_few : (n m : ℕ) → n * m ≤ 64 → (m - 1) * n ≤ 64
high_few n m small = omega (arith, mul-le-mul_right n less, mul_comm n m, small)
  where
    less : m - 1 ≤ m
    less = omega arith

pub all_few : (n m : ℕ) → n ≤ 32 → m ≤ 64 → m * m * n ≤ 131072
all_few n m small few = mul_few (m * m) n 4096 32 (pairs_few m few) small

-- the low bits
pub masked : (v n : ℕ) → n ≤ 64 → bit_and v (18446744073709551615 / 2 ^ (64 - n)) ≡ v % 2 ^ n
masked v n small = ap (bit_and v) (ones_shr 64 (64 - n) (omega arith) ∙ ap (λ e. 2 ^ e - 1) back) ∙ and_mask v n
  where
    back : 64 - (64 - n) ≡ n
    back = omega arith

-- a coefficient of a word fits it
pub wide_few : (n m e : ℕ) → e < m → n * m ≤ 64 → n ≤ 64
wide_few n m e less small = omega (arith, mul-le-mul_left n some, one, small)
  where
    some : 1 ≤ m
    some = omega (arith, less)

    one : n * 1 ≡ n
    one = omega arith

-- Y is an element of the tower
pub y_below : (n m y d s : ℕ) → y ≡ 2 ^ n → n ≡ d → m ≡ s → 1 ≤ n → 2 ≤ m → y < 2 ^ (d * s)
y_below n m y d s is degree size some two = rw (is, sym degree, sym size) (pow_below n (n * m) (omega (arith, mul-le-mul_left n two, double, some)))
  where
    double : n * 2 ≡ n + n
    double = omega arith

-- the degrees of a tower that fits a word, and of the field below
pub low_few : (n m : ℕ) → 2 ≤ m → n * m ≤ 64 → n ≤ 32
low_few n m two small = omega (arith, mul-le-mul_left n two, double, small)
  where
    double : n * 2 ≡ n + n
    double = omega arith

pub size_few : (n m : ℕ) → 1 ≤ n → n * m ≤ 64 → m ≤ 64
size_few n m some small = omega (arith, mul-le-mul_right m some, one, small)
  where
    one : 1 * m ≡ m
    one = omega arith

-- coefficient i of m ends within their word
pub place_whole : (n m i : ℕ) → i < m → n * i + n ≤ n * m
place_whole n m i less = omega (arith, mul-le-mul_left n less, mul-suc n i)
