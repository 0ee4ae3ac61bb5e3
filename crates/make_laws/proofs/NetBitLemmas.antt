-- Bits of nets by place, and the elements that they make.
use Rattle.std.proofs.Common.{◌≡◌, ◌∙◌, ap, ap₂, sym, refl, ℕ, ◌+◌, ◌*◌, ◌^◌, Bool, true, false, List, [], ◌∷◌, length, get_or, cond}
use Rattle.gf_basis.proofs.CodeLaws.{length-first_values, get_or-first_values}
use Rattle.net_core.specs.Value.{bit_of, index_of}
use Rattle.gf_field.specs.Ring.{IsRing}
use Rattle.gf_basis.specs.Basis.{first_values}
use Rattle.gf_basis.specs.BasisFault.{conjugates_of}
use Rattle.gf_field.proofs.SharedLemmas.{same_sum}
use Rattle.irreducible.specs.Span.{combination}
use Rattle.make_laws.specs.Chosen.{chosen, sum_of_chosen}
use Rattle.make_laws.specs.NormalRegisters.{normal_element}
use Rattle.make_laws.specs.DigitRegisters.{HasUnitPowers, power_element}
use Rattle.make_laws.proofs.BitNumber.{number_of_bits}
use Rattle.make_laws.proofs.ChosenLemmas.{combination-chosen, number_powers}
use Rattle.make_laws.proofs.NormalLemmas.{combination_normal}
use Rattle.make_laws.proofs.DigitLemmas.{number_is_power}
use Rattle.make_laws.specs.Held.{bit_at_place}
use Rattle.make_laws.specs.DigitNets.{unit_basis}

pub index_number : (bits : List Bool) (nets : List ℕ) → index_of bits nets ≡ number_of_bits (length nets) (bit_at_place bits nets)
index_number bits [] = refl
index_number bits (n ∷ ns) = ap₂ (λ x y. x + 2 * y) (one (bit_of bits n)) (index_number bits ns)
  where
    one : (b : Bool) → ◌≡◌ {A = ℕ} (cond b 1 0) (chosen b 1)
    one true = refl
    one false = refl

-- a number's element in the basis of the numbers 2 to the i is itself
pub combination_units : (k : ℕ) (a : ℕ → Bool) → combination (unit_basis k) (number_of_bits k a) ≡ number_of_bits k a
combination_units k a =
    let long : length (first_values k (λ i. 2 ^ i)) ≡ k = length-first_values k (λ i. 2 ^ i) in
    ap (λ n. combination (first_values k (λ i. 2 ^ i)) (number_of_bits n a)) (sym long)
    ∙ combination-chosen (first_values k (λ i. 2 ^ i)) a
    ∙ ap (λ n. sum_of_chosen n a (λ i. get_or (first_values k (λ i. 2 ^ i)) i 0)) long
    ∙ same_sum k (λ i. chosen (a i) (get_or (first_values k (λ i. 2 ^ i)) i 0)) (λ i. chosen (a i) (2 ^ i)) (λ i h. ap (chosen (a i)) (get_or-first_values k (λ i. 2 ^ i) i h))
    ∙ sym (number_powers k a)

-- the element of nets in a normal basis
pub normal_of_nets : (k : ℕ) (mul : ℕ → ℕ → ℕ) (gamma : ℕ) (bits : List Bool) (nets : List ℕ) → length nets ≡ k → combination (conjugates_of k mul gamma) (index_of bits nets) ≡ normal_element k mul gamma (bit_at_place bits nets)
normal_of_nets k mul gamma bits nets long =
    ap (combination (conjugates_of k mul gamma)) (index_number bits nets ∙ ap (λ n. number_of_bits n (bit_at_place bits nets)) long)
    ∙ combination_normal k mul gamma (bit_at_place bits nets)

-- the element of bits, and of nets, in the basis of the powers of x
pub power_of_bits : (k : ℕ) (mul : ℕ → ℕ → ℕ) → IsRing k mul → (x : ℕ) → HasUnitPowers k mul x → (a : ℕ → Bool) → combination (unit_basis k) (number_of_bits k a) ≡ power_element mul x k a
power_of_bits k mul ring x units a = combination_units k a ∙ number_is_power k mul ring x units a

pub power_of_nets : (k : ℕ) (mul : ℕ → ℕ → ℕ) → IsRing k mul → (x : ℕ) → HasUnitPowers k mul x → (bits : List Bool) (nets : List ℕ) → length nets ≡ k → combination (unit_basis k) (index_of bits nets) ≡ power_element mul x k (bit_at_place bits nets)
power_of_nets k mul ring x units bits nets long =
    ap (combination (unit_basis k)) (index_number bits nets ∙ ap (λ n. number_of_bits n (bit_at_place bits nets)) long)
    ∙ power_of_bits k mul ring x units (bit_at_place bits nets)
