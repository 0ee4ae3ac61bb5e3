-- Lemmas that several crates above cite.
use Rattle.std.proofs.Common.{◌≡◌, ℕ, ◌∙◌, ap, ◌+◌, add-one, refl, zero, suc, ◌<◌, bit_xor, arith}
use Rattle.std.specs.Int.Bits.{xor_zero_l, xor_assoc, xor_comm}
use Rattle.gf_field.specs.Polynomial.{sum_of_first}
use Rattle.gf_field.specs.Power.{power}

pub power_next : (mul : ℕ → ℕ → ℕ) (y i p r : ℕ) → p ≡ power mul y i → r ≡ mul y p → r ≡ power mul y (i + 1)
unfolding power
power_next mul y i p r is e = rw add-one (e ∙ ap (mul y) is)

pub same_sum : (m : ℕ) (f g : ℕ → ℕ) → ((i : ℕ) → i < m → f i ≡ g i) → sum_of_first m f ≡ sum_of_first m g
same_sum zero f g same = refl
same_sum (suc m) f g same = λ i. bit_xor (same_sum m f g (λ j less. same j (omega arith)) i) (same m (omega arith) i)

pub sum_zero : (m : ℕ) (f : ℕ → ℕ) → ((i : ℕ) → i < m → f i ≡ 0) → sum_of_first m f ≡ 0
sum_zero zero f none = refl
sum_zero (suc m) f none = (λ i. bit_xor (sum_zero m f (λ j less. none j (omega arith)) i) (none m (omega arith) i)) ∙ xor_zero_l 0

pub sum_open : (m : ℕ) (f : ℕ → ℕ) → sum_of_first (suc m) f ≡ bit_xor (f 0) (sum_of_first m (λ i. f (suc i)))
sum_open zero f = xor_comm 0 (f 0)
sum_open (suc m) f = ap (λ x. bit_xor x (f (suc m))) (sum_open m f) ∙ xor_assoc (f 0) (sum_of_first m (λ i. f (suc i))) (f (suc m))
