-- The inverse as a power.
use Rattle.std.proofs.Common.{◌≡◌, ◌≢◌, ℕ, suc, ◌∙◌, ap, ◌<◌, ◌≤◌, ◌^◌, ◌-◌, ◌/◌, arith, pow_mono}
use Rattle.std.proofs.lemmas.Nat.Bits.{ones_shr}
use Rattle.lists.specs.laws.NumberLaws.{less_twice_64}
use Rattle.gf_field.specs.Ring.{IsRing}
use Rattle.gf_field.specs.Field.{HasNoZeroDivisors}
use Rattle.gf_field.specs.Power.{power}
use Rattle.gf_field.specs.laws.FermatLaws.{power_all}

largest : (k : ℕ) → k ≤ 64 → 18446744073709551615 / 2 ^ (64 - k) ≡ 2 ^ k - 1
largest k h = ones_shr 64 (64 - k) (omega arith) ∙ ap (λ x. 2 ^ x - 1) (less_twice_64 k h)

pub inverse_power : (k : ℕ) (mul : ℕ → ℕ → ℕ) → IsRing k mul → HasNoZeroDivisors k mul → (a : ℕ) → a < 2 ^ k → a ≢ 0 → mul a (power mul a (18446744073709551615 / 2 ^ (64 - k) - 1)) ≡ 1
unfolding power
inverse_power k mul ring field a h ne =
    ap (λ x. mul a (power mul a (x - 1))) (largest k ring.small)
    ∙ ap (power mul a) (next k (two k ring.some))
    ∙ power_all k mul ring field a h ne
  where
    two : (k : ℕ) → 1 ≤ k → 2 ≤ 2 ^ k
    two k h = pow_mono {i = 1} h

    next : (k : ℕ) → 2 ≤ 2 ^ k → suc (2 ^ k - 1 - 1) ≡ 2 ^ k - 1
    next k h = omega arith
