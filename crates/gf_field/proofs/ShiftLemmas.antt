-- What a shift by k tells of a number.
use Rattle.std.proofs.Common.{◌≡◌, ℕ, ◌<◌, ◌^◌, ◌/◌, ◌*◌, ◌+◌, ◌==◌, true, arith, pow_pos, zero-mul, subst}
use Rattle.std.proofs.Math.Nat.{lt-div-mul-add, div-eq_of_lt}
use Rattle.std.proofs.lemmas.Bool.{eq-eqb, eqb-true}

pub below_from_shift : (k a : ℕ) → (a / 2 ^ k == 0) ≡ true → a < 2 ^ k
below_from_shift k a h =
    let wide : a < a / 2 ^ k * 2 ^ k + 2 ^ k = lt-div-mul-add (pow_pos k) in
    let less : a < 0 * 2 ^ k + 2 ^ k = subst (λ (q : ℕ). a < q * 2 ^ k + 2 ^ k) (eqb-true (a / 2 ^ k) 0 h) wide in
    omega (arith, less, zero-mul (2 ^ k))

pub shift_from_below : (k a : ℕ) → a < 2 ^ k → (a / 2 ^ k == 0) ≡ true
shift_from_below k a h = eq-eqb (a / 2 ^ k) 0 (div-eq_of_lt h)
