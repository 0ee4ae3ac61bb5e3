-- The squarer computes the square.
use Rattle.std.proofs.Common.{◌≡◌, ◌∙◌, ap, sym, subst, inl, ℕ, ◌<◌, ◌≤◌, ◌+◌, ◌*◌, ◌^◌, Bool, List, length, arith}
use Rattle.std.specs.Prelude.{slice_index, ◌==◌}
use Rattle.std.specs.Int.{bit_at}
use Rattle.std.proofs.lemmas.Nat.Bits.{bit_at-lt}
use Rattle.lists.specs.Lists.{Has}
use Rattle.lists.specs.laws.NumberLaws.{mul_few}
use Rattle.circuit_model.proofs.WordLemmas.{index_small}
use Rattle.gf_field.proofs.SharedLemmas.{same_sum}
use Rattle.gf_field.specs.Bit.{bit_mul}
use Rattle.gf_field.specs.Polynomial.{sum_of_first}
use Rattle.gf_field.specs.Quotient.{product}
use Rattle.gf_field.specs.Ring.{IsRing}
use Rattle.net_core.specs.Value.{index_of}
use Rattle.make_laws.specs.ProductBits.{x_to, HasSquareBits}
use Rattle.make_nets.specs.Plan.{begun, where_so}
use Rattle.make_nets.specs.PlanShape.{IsWellMade}
use Rattle.make_nets.specs.PlanValue.{Agrees, parity}
use Rattle.make_nets.proofs.OuterNets.{CanRead}
use Rattle.make_nets.proofs.EachLemmas.{gathered_has}
use Rattle.make_nets.proofs.ShapeLemmas.{begun_made}
use Rattle.make_nets.proofs.ValueLemmas.{gathered_parity, where_parity}
use Rattle.make_nets.proofs.PolyLemmas.{index_bit}
use Rattle.mult_gen.specs.Chains.{added_bits, squarer_plan}
use Rattle.mult_gen.proofs.ChainLemmas.{chains_made, chains_next, chains_value, gathered_all, gathered_few, where_few, where_has}
use Rattle.mult_gen.proofs.PolyLemmas.{index_is}

-- a list has no more nets than there are bits
pub bits_few : (k g : ℕ) (a : List ℕ) (l : ℕ) → k ≤ 64 → length (added_bits k g a l) ≤ 64
bits_few k g a l few = omega (arith, gathered_few (λ i. where_so (bit_at (x_to k g (2 * i)) l == 1) (slice_index a i)) k 1 (λ i low. where_few (bit_at (x_to k g (2 * i)) l == 1) (slice_index a i)), few)

module _ (outer k g : ℕ) (a z : List ℕ) (few : k ≤ 64) (a_long : length a ≡ k) (z_long : length z ≡ k) where
  -- the exclusive or of the bits that add to a bit
  list_parity : (bits : List Bool) (l : ℕ) → parity bits (added_bits k g a l) ≡ sum_of_first k (λ i. bit_at (index_of bits a) i * bit_at (x_to k g (2 * i)) l)
  list_parity bits l =
      gathered_parity bits (λ i. where_so (bit_at (x_to k g (2 * i)) l == 1) (slice_index a i)) k
      ∙ same_sum k (λ i. parity bits (where_so (bit_at (x_to k g (2 * i)) l == 1) (slice_index a i))) (λ i. bit_at (index_of bits a) i * bit_at (x_to k g (2 * i)) l)
      (λ i low. where_parity bits (bit_at (x_to k g (2 * i)) l) (slice_index a i) (bit_at-lt (x_to k g (2 * i)) l)
      ∙ ap (λ n. n * bit_at (x_to k g (2 * i)) l) (sym (index_bit bits a i (omega (arith, low, a_long)))))

  -- the bits of z are those of the square
  pub squarer_square : (bits : List Bool) → IsRing k (product 1 k bit_mul g) → HasSquareBits k g → Agrees bits (squarer_plan outer k g a z) → index_of bits z ≡ product 1 k bit_mul g (index_of bits a) (index_of bits a)
  squarer_square bits ring by_bits agrees =
      index_is bits z k (product 1 k bit_mul g (index_of bits a) (index_of bits a)) z_long (ring.closed (index_of bits a) (index_of bits a))
      (λ l less. chains_value k z (added_bits k g a) (begun outer) bits l agrees less
      ∙ (list_parity bits l ∙ sym (by_bits (index_of bits a) l (omega (arith, index_small bits a, ap (λ n. 2 ^ n) a_long)))))

  -- the plan drives z from the factor
  pub squarer_made : (sources : List ℕ) → ((i : ℕ) → i < k → Has sources (slice_index a i)) → ((l : ℕ) → l < k → slice_index z l < outer) → IsWellMade outer sources z (squarer_plan outer k g a z)
  squarer_made sources first low =
      let P : List ℕ → Type 0 = λ targets. IsWellMade outer sources targets (squarer_plan outer k g a z) in
      let Q : ℕ → Type 0 = λ n. CanRead outer sources (begun outer) n in
      subst P (gathered_all z k z_long)
      (chains_made k z (added_bits k g a) (begun outer) outer sources (begun_made outer sources) low
      (λ l n less has. let row = gathered_has (λ i. where_so (bit_at (x_to k g (2 * i)) l == 1) (slice_index a i)) k n has in
      subst Q (where_has (bit_at (x_to k g (2 * row.0)) l == 1) (slice_index a row.0) n row.2) (inl (first row.0 row.1))))

  -- and has few nets
  pub squarer_few : (squarer_plan outer k g a z).next ≤ outer + 5000
  squarer_few = omega (arith, chains_next k z (added_bits k g a) (begun outer) k 65 (λ l less. omega (arith, bits_few k g a l few)), mul_few k 65 64 65 few (omega arith))
