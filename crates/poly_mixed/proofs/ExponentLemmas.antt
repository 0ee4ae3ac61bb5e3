-- The greatest number of k bits.
use Rattle.std.proofs.Common.{◌≡◌, ℕ, ◌+◌, ◌-◌, ◌/◌, ◌<◌, ◌≤◌, ◌^◌, ◌∙◌, ap, sym, arith, nat_lt}
use Rattle.std.proofs.lemmas.Nat.{pow_pos}
use Rattle.std.proofs.lemmas.Nat.Bits.{ones_shr}
use Rattle.std.proofs.lemmas.Bool.{lt-ltb, le-ltb, cond-true, cond-false}
use Rattle.poly_mixed.specs.Product.{add_exponent}

pub top : (k : ℕ) → 1 ≤ k → k ≤ 64 → 18446744073709551615 / 2 ^ (64 - k) ≡ 2 ^ k - 1
top k l h =
    let within : 64 - k ≤ 64 = omega arith in
    let back : 64 - (64 - k) ≡ k = omega arith in
    ones_shr 64 (64 - k) within ∙ ap (λ (n : ℕ). 2 ^ n - 1) back

-- ---- an exponent of k bits more

pub fits : (k b : ℕ) → 1 ≤ k → k ≤ 64 → b < 2 ^ k → b ≤ 18446744073709551615 / 2 ^ (64 - k)
fits k b l h p = let e = top k l h in omega arith

pub below : (k a b : ℕ) → 1 ≤ k → k ≤ 64 → b < 2 ^ k → a ≤ 18446744073709551615 / 2 ^ (64 - k) - b → a + b ≡ add_exponent k a b
below k a b l h p q =
    let e = top k l h in
    let small : a + b < 2 ^ k = omega arith in
    sym (cond-true (nat_lt (a + b) (2 ^ k)) _ _ (lt-ltb (a + b) (2 ^ k) small))

pub wraps : (k a b : ℕ) → 1 ≤ k → k ≤ 64 → b < 2 ^ k → 18446744073709551615 / 2 ^ (64 - k) - b < a → a - (18446744073709551615 / 2 ^ (64 - k) - b) ≡ add_exponent k a b
wraps k a b l h p q =
    let e = top k l h in
    let pos = pow_pos k in
    let big : 2 ^ k ≤ a + b = omega arith in
    let same : a - (18446744073709551615 / 2 ^ (64 - k) - b) ≡ a + b - (2 ^ k - 1) = omega arith in
    same ∙ sym (cond-false (nat_lt (a + b) (2 ^ k)) _ _ (le-ltb (a + b) (2 ^ k) big))
