-- Words in the basis of powers: their element is the number of their bits.
use Rattle.std.proofs.Common.{◌≡◌, ◌≢◌, ◌∙◌, ap, ap₂, sym, refl, ℕ, zero, suc, ◌<◌, ◌+◌, ◌*◌, ◌/◌, ◌%◌, ◌^◌, Bool, List, [], ◌∷◌, length, get_or, arith}
use Rattle.std.specs.Int.{bit_at}
use Rattle.std.proofs.lemmas.Nat.Bits.{bit_at-suc, bit_at-zero, bit_at-lt, bit_at-pow_other, bit_at-pow_same, bit_at_lowest, bit_at_xor, same_from_bits}
use Rattle.std.proofs.Math.Nat.{zero-mul, one-mul}
use Rattle.lists.specs.laws.NumberLaws.{lowest_of_choice, rest_of_choice}
use Rattle.irreducible.specs.Span.{combination}
use Rattle.gf_basis.specs.Basis.{AreBits, first_values}
use Rattle.gf_basis.proofs.CodeLaws.{length-first_values}
use Rattle.net_core.specs.Value.{bit_of, index_of}
use Rattle.make_nets.specs.PlanValue.{bit_at_net}

-- bit i of the number of the bits of nets is that of the net of place i
pub index_bit : (bits : List Bool) (nets : List ℕ) (i : ℕ) → i < length nets → bit_at (index_of bits nets) i ≡ bit_at_net bits (get_or nets i 0)
index_bit bits [] i less = absurd (omega arith)
index_bit bits (n ∷ nets) zero less = bit_at_lowest (index_of bits (n ∷ nets)) ∙ lowest_of_choice (bit_of bits n) (index_of bits nets)
index_bit bits (n ∷ nets) (suc i) less = bit_at-suc (index_of bits (n ∷ nets)) i ∙ (ap (λ m. bit_at m i) (rest_of_choice (bit_of bits n) (index_of bits nets)) ∙ index_bit bits nets i (omega (arith, less)))

-- powers from the j-th on
powers_from : ℕ → ℕ → List ℕ
powers_from j zero = []
powers_from j (suc k) = 2 ^ j ∷ powers_from (suc j) k

powers_are : (j k : ℕ) (f : ℕ → ℕ) → ((i : ℕ) → f i ≡ 2 ^ (j + i)) → first_values k f ≡ powers_from j k
unfolding powers_from
powers_are j zero f is = refl
powers_are j (suc k) f is =
    let first : f 0 ≡ 2 ^ j = is 0 ∙ ap (λ n. 2 ^ n) (omega arith) in
    let rest : first_values k (λ i. f (suc i)) ≡ powers_from (suc j) k = powers_are (suc j) k (λ i. f (suc i)) (λ i. is (suc i) ∙ ap (λ n. 2 ^ n) (omega arith)) in
    rw (first, rest) refl

lowest : (c j i : ℕ) → i ≢ j → bit_at (c % 2 * 2 ^ j) i ≡ 0
lowest c j i other = by (c % 2) (omega arith)
  where
    by : (b : ℕ) → b < 2 → bit_at (b * 2 ^ j) i ≡ 0
    by zero low = ap (λ n. bit_at n i) (zero-mul (2 ^ j)) ∙ bit_at-zero i
    by (suc zero) low = ap (λ n. bit_at n i) (one-mul (2 ^ j)) ∙ bit_at-pow_other j i other
    by (suc (suc b)) low = absurd (omega arith)

own : (c j : ℕ) → bit_at (c % 2 * 2 ^ j) j ≡ c % 2
own c j = by (c % 2) (omega arith)
  where
    by : (b : ℕ) → b < 2 → bit_at (b * 2 ^ j) j ≡ b
    by zero low = ap (λ n. bit_at n j) (zero-mul (2 ^ j)) ∙ bit_at-zero j
    by (suc zero) low = ap (λ n. bit_at n j) (one-mul (2 ^ j)) ∙ bit_at-pow_same j
    by (suc (suc b)) low = absurd (omega arith)

low_bits : (j k c i : ℕ) → i < j → bit_at (combination (powers_from j k) c) i ≡ 0
unfolding powers_from
low_bits j zero c i less = bit_at-zero i
low_bits j (suc k) c i less = bit_at_xor (c % 2 * 2 ^ j) (combination (powers_from (suc j) k) (c / 2)) i ∙ ap₂ (λ x y. (x + y) % 2) (lowest c j i (λ e. omega (arith, e, less))) (low_bits (suc j) k (c / 2) i (omega (arith, less)))

-- bit l of the sum is that of the number
sum_bits : (j k c l : ℕ) → c < 2 ^ k → bit_at (combination (powers_from j k) c) (j + l) ≡ bit_at c l
unfolding powers_from
sum_bits j zero c l low = let none : c ≡ 0 = omega (arith, low) in bit_at-zero (j + l) ∙ (sym (bit_at-zero l) ∙ ap (λ n. bit_at n l) (sym none))
sum_bits j (suc k) c zero low =
    let place : j + 0 ≡ j = omega arith in
    ap (bit_at (combination (powers_from j (suc k)) c)) place
    ∙ (bit_at_xor (c % 2 * 2 ^ j) (combination (powers_from (suc j) k) (c / 2)) j ∙ (ap₂ (λ x y. (x + y) % 2) (own c j) (low_bits (suc j) k (c / 2) j (omega arith)) ∙ (omega arith ∙ sym (bit_at_lowest c))))
sum_bits j (suc k) c (suc l) low =
    let place : j + suc l ≡ suc j + l = omega arith in
    let small : bit_at c (suc l) < 2 = bit_at-lt c (suc l) in
    bit_at_xor (c % 2 * 2 ^ j) (combination (powers_from (suc j) k) (c / 2)) (j + suc l)
    ∙ (ap₂ (λ x y. (x + y) % 2) (lowest c j (j + suc l) (λ e. omega (arith, e))) (ap (bit_at (combination (powers_from (suc j) k) (c / 2))) place ∙ (sum_bits (suc j) k (c / 2) l (omega (arith, low)) ∙ sym (bit_at-suc c l)))
    ∙ omega (arith, small))

-- the element of a number of k bits in the basis of powers is the number
pub poly_element : (k x c : ℕ) → AreBits (first_values k (λ i. 2 ^ i)) x c → x ≡ c
poly_element k x c are =
    let powers : first_values k (λ i. 2 ^ i) ≡ powers_from 0 k = powers_are 0 k (λ i. 2 ^ i) (λ i. ap (λ n. 2 ^ n) (omega arith)) in
    let low : c < 2 ^ k = omega (arith, are.short, ap (λ n. 2 ^ n) (length-first_values k (λ i. 2 ^ i))) in
    sym are.is ∙ (ap (λ (rows : List ℕ). combination rows c) powers ∙ same_from_bits (combination (powers_from 0 k) c) c (λ i. ap (bit_at (combination (powers_from 0 k) c)) (omega arith) ∙ sum_bits 0 k c i low))
