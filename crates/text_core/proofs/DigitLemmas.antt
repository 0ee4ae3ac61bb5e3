-- The value of digits, read from the left.
use Rattle.std.proofs.Common.{◌≡◌, ◌∙◌, ap, ℕ, suc, ◌<◌, ◌≤◌, ◌+◌, ◌*◌, ◌^◌, List, length, drop, get_or, arith, add-one, drop-cons}
use Rattle.std.proofs.Math.Nat.{pow-succ', le-mul_of_pos_right, one-le-pow, mul_assoc, add-mul, mul-one, add-zero, pow-zero}
use Rattle.std.proofs.Math.ListN.{drop_of_length-le}
use Rattle.text_core.specs.Numbers.{value_of, digit_value}

sums : (a b c x : ℕ) → x ≡ a + b → a + (b + c) ≡ x + c
sums a b c x e = omega (arith, e)

products : (base acc d p v : ℕ) → acc * (base * p) + (d * p + v) ≡ (acc * base + d) * p + v
products base acc d p v =
    sums (acc * (base * p)) (d * p) v ((acc * base + d) * p) (add-mul (acc * base) d p ∙ ap (λ x. x + d * p) (mul_assoc acc base p))

place : (base acc d n v : ℕ) → acc * base ^ suc n + (d * base ^ n + v) ≡ (acc * base + d) * base ^ n + v
place base acc d n v = rw (pow-succ' base n) (products base acc d (base ^ n) v)

pub value-step : (base : ℕ) (digits : List ℕ) (i acc : ℕ) → i < length digits → acc * base ^ length (drop i digits) + value_of base (drop i digits) ≡ (acc * base + digit_value (get_or digits i 0)) * base ^ length (drop (i + 1) digits) + value_of base (drop (i + 1) digits)
value-step base digits i acc below =
    rw (add-one, drop-cons digits i 0 below) (place base acc (digit_value (get_or digits i 0)) (length (drop (suc i) digits)) (value_of base (drop (suc i) digits)))

-- what was read is no more than the whole
pub value-front : (base acc n v : ℕ) → 0 < base → acc ≤ acc * base ^ n + v
value-front base acc n v some = omega (arith, le-mul_of_pos_right acc (one-le-pow n base some))

-- all that was read is the whole
pub value-end : (base : ℕ) (digits : List ℕ) (i acc : ℕ) → length digits ≤ i → acc * base ^ length (drop i digits) + value_of base (drop i digits) ≡ acc
value-end base digits i acc past = rw (drop_of_length-le digits past) (ap (λ p. acc * p + 0) (pow-zero base) ∙ (add-zero (acc * 1) ∙ mul-one acc))
