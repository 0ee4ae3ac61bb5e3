-- What a multiplier computes with one bit of one table turned over.
use Rattle.std.proofs.Common.{◌≡◌, ◌∙◌, ap, ap₂, sym, inl, inr, ℕ, zero, suc, ◌<◌, ◌≤◌, ◌+◌, ◌*◌, ◌/◌, ◌%◌, ◌^◌, Bool, true, false, cond, List, length, arith}
use Rattle.std.specs.Prelude.{bit_xor, slice_index, ◌==◌}
use Rattle.std.specs.Int.{bit_at}
use Rattle.std.specs.Int.Bits.{xor_zero_r}
use Rattle.std.proofs.Math.Nat.{div-add-mod, mul_comm, le_refl, mul-zero, mul-one, zero-mul, one-mul}
use Rattle.std.proofs.lemmas.Nat.{xor_lt, same_from_place}
use Rattle.std.proofs.lemmas.Nat.Bits.{bit_at-lt, bit_at-zero}
use Rattle.lists.specs.Lists.{Has}
use Rattle.lists.specs.laws.NumberLaws.{nat_eq_or, mul_few}
use Rattle.lists.specs.laws.TestLaws.{chosen_other, chosen_equal}
use Rattle.lists.specs.laws.XorLaws.{bit_at-sum}
use Rattle.circuit_model.proofs.WordLemmas.{index_small}
use Rattle.gf_field.proofs.SharedLemmas.{same_sum}
use Rattle.gf_field.specs.Bit.{bit_mul}
use Rattle.gf_field.specs.Polynomial.{sum_of_first}
use Rattle.gf_field.specs.Quotient.{product}
use Rattle.gf_field.specs.Ring.{IsRing}
use Rattle.gf_field.specs.laws.PowerLaws.{power_below}
use Rattle.make_laws.specs.Indeterminate.{x_of}
use Rattle.make_laws.specs.ProductBits.{x_to, HasProductBits}
use Rattle.net_core.specs.GateValue.{GateValue}
use Rattle.net_core.specs.Turned.{turned_gates}
use Rattle.net_core.specs.Value.{index_of, IsRight}
use Rattle.make_nets.specs.Plan.{begun, where_so}
use Rattle.make_nets.specs.PlanValue.{bit_at_net, parity}
use Rattle.make_nets.proofs.ValueLemmas.{gathered_parity, where_parity}
use Rattle.make_nets.proofs.PolyLemmas.{index_bit}
use Rattle.mult_gen.specs.Chains.{added_products, added_row, mastrovito_plan, products}
use Rattle.mult_gen.proofs.ChainLemmas.{chains_value}
use Rattle.mult_gen.proofs.PolyLemmas.{index_is}
use Rattle.make_trial.specs.Turned.{turned_product}
use Rattle.make_trial.proofs.SumLemmas.{sum_pair}
use Rattle.make_trial.proofs.ValueLemmas.{chains_right, product_bits}

-- the row and the place of one of k * k products
pub place_is : (k p : ℕ) → p / k * k + p % k ≡ p
place_is k p = omega (arith, div-add-mod p k, mul_comm (p / k) k)

pub row_low : (k p : ℕ) → p < k * k → p / k < k
row_low k p low =
    let high : k ≤ p / k → ⊥ = λ more. omega (arith, place_is k p, mul_few k k (p / k) k more (le_refl k), low) in
    omega (arith, high)

pub column_low : (k p : ℕ) → p < k * k → p % k < k
column_low zero p low = absurd (omega (arith, low))
column_low (suc k) p low = omega arith

times_xor : (c x y : ℕ) → c < 2 → bit_xor x y * c ≡ bit_xor (x * c) (y * c)
times_xor zero x y low = mul-zero (bit_xor x y) ∙ (sym (xor_zero_r 0) ∙ ap₂ bit_xor (sym (mul-zero x)) (sym (mul-zero y)))
times_xor (suc zero) x y low = mul-one (bit_xor x y) ∙ ap₂ bit_xor (sym (mul-one x)) (sym (mul-one y))
times_xor (suc (suc c)) x y low = absurd (omega arith)

module _ (outer k g : ℕ) (a b z : List ℕ) (p index : ℕ) (low : p < k * k) (small : index < 4) (a_long : length a ≡ k) (b_long : length b ≡ k) (z_long : length z ≡ k) (bits : List Bool) (right : (gate : GateValue) → Has (turned_gates (mastrovito_plan outer k g a b z).gates p index) gate → IsRight bits gate) where
  a_bit : (i : ℕ) → i < k → bit_at_net bits (slice_index a i) ≡ bit_at (index_of bits a) i
  a_bit i less = sym (index_bit bits a i (omega (arith, less, a_long)))

  b_bit : (j : ℕ) → j < k → bit_at_net bits (slice_index b j) ≡ bit_at (index_of bits b) j
  b_bit j less = sym (index_bit bits b j (omega (arith, less, b_long)))

  -- one product, times a bit of a power of x
  one : (l i j : ℕ) → i < k → j < k → bit_at_net bits (outer + i * k + j) * bit_at (x_to k g (i + j)) l ≡ bit_xor (bit_at (index_of bits a) i * bit_at (index_of bits b) j * bit_at (x_to k g (i + j)) l) (cond (i * k + j == p / k * k + p % k) (cond (bit_at (index_of bits a) (p / k) + 2 * bit_at (index_of bits b) (p % k) == index) 1 0 * bit_at (x_to k g (p / k + p % k)) l) 0)
  one l i j first second =
      ap (λ n. n * bit_at (x_to k g (i + j)) l) (product_bits outer k g a b z p index low small bits right i j first second
      ∙ ap₂ (λ x y. bit_xor (x * y) (cond (i * k + j == p) (cond (x + 2 * y == index) 1 0) 0)) (a_bit i first) (b_bit j second))
      ∙ (times_xor (bit_at (x_to k g (i + j)) l) (bit_at (index_of bits a) i * bit_at (index_of bits b) j) (cond (i * k + j == p) (cond (bit_at (index_of bits a) i + 2 * bit_at (index_of bits b) j == index) 1 0) 0) (bit_at-lt (x_to k g (i + j)) l)
      ∙ ap (bit_xor (bit_at (index_of bits a) i * bit_at (index_of bits b) j * bit_at (x_to k g (i + j)) l)) (elim (nat_eq_or (i * k + j) p) [
        | inl same ↦
            let place = same_from_place i j (p / k) (p % k) k second (column_low k p low) (same ∙ sym (place_is k p)) in
            ap (λ n. n * bit_at (x_to k g (i + j)) l) (chosen_equal (i * k + j) p (cond (bit_at (index_of bits a) i + 2 * bit_at (index_of bits b) j == index) 1 0) 0 same)
            ∙ (ap₂ (λ x y. cond (bit_at (index_of bits a) x + 2 * bit_at (index_of bits b) y == index) 1 0 * bit_at (x_to k g (x + y)) l) place.0 place.1
            ∙ sym (chosen_equal (i * k + j) (p / k * k + p % k) (cond (bit_at (index_of bits a) (p / k) + 2 * bit_at (index_of bits b) (p % k) == index) 1 0 * bit_at (x_to k g (p / k + p % k)) l) 0 (same ∙ sym (place_is k p))))
        | inr other ↦
            ap (λ n. n * bit_at (x_to k g (i + j)) l) (chosen_other (i * k + j) p (cond (bit_at (index_of bits a) i + 2 * bit_at (index_of bits b) j == index) 1 0) 0 other)
            ∙ (zero-mul (bit_at (x_to k g (i + j)) l)
            ∙ sym (chosen_other (i * k + j) (p / k * k + p % k) (cond (bit_at (index_of bits a) (p / k) + 2 * bit_at (index_of bits b) (p % k) == index) 1 0 * bit_at (x_to k g (p / k + p % k)) l) 0 (λ e. other (e ∙ place_is k p))))
      ]))

  -- the exclusive or of what adds to a bit
  list_parity : (l : ℕ) → parity bits (added_products k g outer l) ≡ bit_xor (sum_of_first k (λ i. sum_of_first k (λ j. bit_at (index_of bits a) i * bit_at (index_of bits b) j * bit_at (x_to k g (i + j)) l))) (cond (bit_at (index_of bits a) (p / k) + 2 * bit_at (index_of bits b) (p % k) == index) 1 0 * bit_at (x_to k g (p / k + p % k)) l)
  list_parity l =
      gathered_parity bits (λ i. added_row k g (outer + i * k) i l k) k
      ∙ (same_sum k (λ i. parity bits (added_row k g (outer + i * k) i l k)) (λ i. sum_of_first k (λ j. bit_xor (bit_at (index_of bits a) i * bit_at (index_of bits b) j * bit_at (x_to k g (i + j)) l) (cond (i * k + j == p / k * k + p % k) (cond (bit_at (index_of bits a) (p / k) + 2 * bit_at (index_of bits b) (p % k) == index) 1 0 * bit_at (x_to k g (p / k + p % k)) l) 0))) row
      ∙ sum_pair k (p / k) (p % k) (λ i j. bit_at (index_of bits a) i * bit_at (index_of bits b) j * bit_at (x_to k g (i + j)) l) (cond (bit_at (index_of bits a) (p / k) + 2 * bit_at (index_of bits b) (p % k) == index) 1 0 * bit_at (x_to k g (p / k + p % k)) l) (row_low k p low) (column_low k p low))
    where
      row : (i : ℕ) → i < k → parity bits (added_row k g (outer + i * k) i l k) ≡ sum_of_first k (λ j. bit_xor (bit_at (index_of bits a) i * bit_at (index_of bits b) j * bit_at (x_to k g (i + j)) l) (cond (i * k + j == p / k * k + p % k) (cond (bit_at (index_of bits a) (p / k) + 2 * bit_at (index_of bits b) (p % k) == index) 1 0 * bit_at (x_to k g (p / k + p % k)) l) 0))
      row i first =
          gathered_parity bits (λ j. where_so (bit_at (x_to k g (i + j)) l == 1) (outer + i * k + j)) k
          ∙ same_sum k (λ j. parity bits (where_so (bit_at (x_to k g (i + j)) l == 1) (outer + i * k + j))) (λ j. bit_xor (bit_at (index_of bits a) i * bit_at (index_of bits b) j * bit_at (x_to k g (i + j)) l) (cond (i * k + j == p / k * k + p % k) (cond (bit_at (index_of bits a) (p / k) + 2 * bit_at (index_of bits b) (p % k) == index) 1 0 * bit_at (x_to k g (p / k + p % k)) l) 0))
          (λ j second. where_parity bits (bit_at (x_to k g (i + j)) l) (outer + i * k + j) (bit_at-lt (x_to k g (i + j)) l) ∙ one l i j first second)

  added_bit : (l : ℕ) (b : Bool) → bit_at (cond b (x_to k g (p / k + p % k)) 0) l ≡ cond b 1 0 * bit_at (x_to k g (p / k + p % k)) l
  added_bit l true = sym (one-mul (bit_at (x_to k g (p / k + p % k)) l))
  added_bit l false = bit_at-zero l ∙ sym (zero-mul (bit_at (x_to k g (p / k + p % k)) l))

  added_low : IsRing k (product 1 k bit_mul g) → (b : Bool) → cond b (x_to k g (p / k + p % k)) 0 < 2 ^ k
  added_low ring true = power_below k (product 1 k bit_mul g) ring (x_of k g) (p / k + p % k)
  added_low ring false = omega (arith, ring.closed 0 0)

  -- the bits of z are those of the product, to which the power of x is added where the turned bit is read
  pub turned_value : IsRing k (product 1 k bit_mul g) → HasProductBits k g → index_of bits z ≡ turned_product k g p index (index_of bits a) (index_of bits b)
  turned_value ring by_bits =
      let read : Bool = bit_at (index_of bits a) (p / k) + 2 * bit_at (index_of bits b) (p % k) == index in
      index_is bits z k (turned_product k g p index (index_of bits a) (index_of bits b)) z_long
      (xor_lt k (product 1 k bit_mul g (index_of bits a) (index_of bits b)) (cond (bit_at (index_of bits a) (p / k) + 2 * bit_at (index_of bits b) (p % k) == index) (x_to k g (p / k + p % k)) 0) (ring.closed (index_of bits a) (index_of bits b)) (added_low ring (bit_at (index_of bits a) (p / k) + 2 * bit_at (index_of bits b) (p % k) == index)))
      (λ l less. chains_value k z (added_products k g outer) (begun (products k a b (begun outer)).next) bits l (chains_right outer k g a b z p index low small bits right) less
      ∙ (list_parity l
      ∙ (ap₂ bit_xor (sym (by_bits (index_of bits a) (index_of bits b) l (omega (arith, index_small bits a, ap (λ n. 2 ^ n) a_long)) (omega (arith, index_small bits b, ap (λ n. 2 ^ n) b_long)))) (sym (added_bit l (bit_at (index_of bits a) (p / k) + 2 * bit_at (index_of bits b) (p % k) == index)))
      ∙ sym (bit_at-sum (product 1 k bit_mul g (index_of bits a) (index_of bits b)) (cond (bit_at (index_of bits a) (p / k) + 2 * bit_at (index_of bits b) (p % k) == index) (x_to k g (p / k + p % k)) 0) l))))
