-- Laws of powers of 2, and of numbers cut to some of their bits.
use Rattle.std.proofs.Common.{◌≡◌, ◌∙◌, ap, sym, subst, ℕ, zero, suc, ◌<◌, ◌≤◌, ◌+◌, ◌-◌, ◌*◌, ◌/◌, ◌%◌, ◌^◌, List, length, take, drop, arith, mul_comm, mul_assoc}
use Rattle.std.specs.Prelude.{bit_and}
use Rattle.std.proofs.Math.Nat.{pow-suc}
use Rattle.std.proofs.Math.Pow.{mod-mod-pow}
use Rattle.std.proofs.lemmas.List.{length-take, length-drop}
use Rattle.std.proofs.lemmas.Nat.{pow_below, one_shl, and_mask}
use Rattle.std.proofs.lemmas.Nat.Bits.{ones_shr}
use Rattle.lists.specs.laws.NumberLaws.{less_twice_64, parts_of_64}

pub pow_twice : (j : ℕ) → 2 ^ j + 2 ^ j ≡ 2 ^ suc j
pow_twice j = omega (arith, pow-suc 2 j)

pub one_below_pow : (k : ℕ) → 1 ≤ k → 1 < 2 ^ k
one_below_pow k some = pow_below 0 k some

pub half_below_pow : (k u : ℕ) → u < 2 ^ suc k → u / 2 < 2 ^ k
half_below_pow k u h = omega (arith, h, pow-suc 2 k)

-- a one at place j
pub one_at_below : (j k : ℕ) → j < k → k ≤ 64 → (1 * 2 ^ j) % 2 ^ 64 < 2 ^ k
one_at_below j k less small =
    let P : ℕ → Type 0 = λ x. x < 2 ^ k in
    let is : (1 * 2 ^ j) % 2 ^ 64 ≡ 2 ^ j = one_shl j 64 (omega arith) in
    subst P (sym is) (pow_below j k less)

-- the lowest k bits, by the mask of k ones
pub masked : (k x : ℕ) → k ≤ 64 → bit_and x (18446744073709551615 / 2 ^ (64 - k)) ≡ x % 2 ^ k
masked k x h = ap (bit_and x) (ones_shr 64 (64 - k) (omega arith) ∙ ap (λ y. 2 ^ y - 1) (less_twice_64 k h)) ∙ and_mask x k

pub cut_twice : (k x : ℕ) → k ≤ 64 → x % 2 ^ 64 % 2 ^ k ≡ x % 2 ^ k
cut_twice k x h = ap (λ y. x % 2 ^ y % 2 ^ k) (parts_of_64 k h) ∙ mod-mod-pow x (64 - k) k

-- twice as many steps for each subset of one number fewer
pub half_within : (s n : ℕ) → 1 ≤ n → s * 2 ^ n ≤ 64 → 2 * s * 2 ^ (n - 1) ≤ 64
half_within s zero l h = absurd (omega arith)
half_within s (suc n) l h =
    let e : 2 * s * 2 ^ n ≡ s * 2 ^ suc n = turned s (2 ^ n) ∙ ap (λ m. s * m) (sym (pow-suc 2 n)) in
    let same : suc n - 1 ≡ n = omega arith in
    subst (λ (m : ℕ). 2 * s * 2 ^ m ≤ 64) (sym same) (omega arith)
  where
    turned : (s m : ℕ) → 2 * s * m ≡ s * (m * 2)
    turned s m = ap (λ k. k * m) (mul_comm 2 s) ∙ mul_assoc s 2 m ∙ ap (λ k. s * k) (mul_comm 2 m)

pub rest_long : (rs : List ℕ) (n : ℕ) → n ≡ length rs → length (take (n - 1) (drop 1 rs)) ≡ length rs - 1
rest_long rs n e = simp (length-take, length-drop) (omega arith)

pub halved_subsets : (rs : List ℕ) (step : ℕ) → 1 ≤ length rs → step * 2 ^ length rs ≤ 64 → 2 * step * 2 ^ length (take (length rs - 1) (drop 1 rs)) ≤ 64
halved_subsets rs step l h =
    let P : ℕ → Type 0 = λ n. 2 * step * 2 ^ n ≤ 64 in
    subst P (sym (rest_long rs (length rs) (λ i. length rs))) (half_within step (length rs) l h)
