-- The adder computes the sum.
use Rattle.std.proofs.Common.{◌≡◌, ◌∙◌, ap, ap₂, sym, refl, subst, inl, ℕ, zero, suc, ◌<◌, ◌≤◌, ◌^◌, Bool, List, [], ◌∷◌, length, Some, arith}
use Rattle.std.specs.Prelude.{slice_index, bit_xor}
use Rattle.std.specs.Int.Bits.{xor_lt}
use Rattle.lists.specs.Lists.{Has}
use Rattle.lists.specs.laws.XorLaws.{bit_at-sum}
use Rattle.circuit_model.proofs.WordLemmas.{index_small}
use Rattle.net_core.specs.Value.{index_of}
use Rattle.make_nets.specs.Plan.{begun, each, gathered, with_xor}
use Rattle.make_nets.specs.PlanShape.{IsWellMade}
use Rattle.make_nets.specs.PlanValue.{Agrees, bit_at_net}
use Rattle.make_nets.proofs.EachLemmas.{agrees_each}
use Rattle.make_nets.proofs.ShapeLemmas.{begun_made, xor_made}
use Rattle.make_nets.proofs.ValueLemmas.{agrees_before, xor_value}
use Rattle.make_nets.proofs.PolyLemmas.{index_bit}
use Rattle.mult_gen.specs.Chains.{adder_plan}
use Rattle.mult_gen.proofs.ChainLemmas.{gathered_all}
use Rattle.mult_gen.proofs.PolyLemmas.{index_is}

module _ (outer k : ℕ) (a b z : List ℕ) (a_long : length a ≡ k) (b_long : length b ≡ k) (z_long : length z ≡ k) where
  bit_sum : (bits : List Bool) (i : ℕ) → Agrees bits (adder_plan outer k a b z) → i < k → bit_at_net bits (slice_index z i) ≡ bit_xor (bit_at_net bits (slice_index a i)) (bit_at_net bits (slice_index b i))
  bit_sum bits i agrees less =
      xor_value bits (Some (slice_index z i)) (slice_index a i) (slice_index b i) (each i (λ i. with_xor (Some (slice_index z i)) (slice_index a i) (slice_index b i)) (begun outer))
      (agrees_each bits (λ i. with_xor (Some (slice_index z i)) (slice_index a i) (slice_index b i)) (begun outer) (suc i) k (λ i p. agrees_before bits (Some (slice_index z i)) (slice_index a i ∷ slice_index b i ∷ []) 6 p) less agrees)

  -- the bits of z are those of the exclusive or
  pub adder_sum : (bits : List Bool) → Agrees bits (adder_plan outer k a b z) → index_of bits z ≡ bit_xor (index_of bits a) (index_of bits b)
  adder_sum bits agrees =
      index_is bits z k (bit_xor (index_of bits a) (index_of bits b)) z_long
      (xor_lt k (index_of bits a) (index_of bits b) (omega (arith, index_small bits a, ap (λ n. 2 ^ n) a_long)) (omega (arith, index_small bits b, ap (λ n. 2 ^ n) b_long)))
      (λ l less. bit_sum bits l agrees less
      ∙ (ap₂ bit_xor (sym (index_bit bits a l (omega (arith, less, a_long)))) (sym (index_bit bits b l (omega (arith, less, b_long))))
      ∙ sym (bit_at-sum (index_of bits a) (index_of bits b) l)))

  pub adder_next : (n : ℕ) → (each n (λ i. with_xor (Some (slice_index z i)) (slice_index a i) (slice_index b i)) (begun outer)).next ≡ outer
  adder_next zero = refl
  adder_next (suc n) = adder_next n

  -- the plan drives z from both words
  pub adder_made : (sources : List ℕ) → ((i : ℕ) → i < k → Has sources (slice_index a i)) → ((i : ℕ) → i < k → Has sources (slice_index b i)) → ((l : ℕ) → l < k → slice_index z l < outer) → IsWellMade outer sources z (adder_plan outer k a b z)
  adder_made sources first second low =
      let P : List ℕ → Type 0 = λ targets. IsWellMade outer sources targets (adder_plan outer k a b z) in
      subst P (gathered_all z k z_long) (by k (omega arith))
    where
      by : (n : ℕ) → n ≤ k → IsWellMade outer sources (gathered n (λ l. slice_index z l ∷ [])) (each n (λ i. with_xor (Some (slice_index z i)) (slice_index a i) (slice_index b i)) (begun outer))
      by zero less = begun_made outer sources
      by (suc n) less = xor_made outer sources (gathered n (λ l. slice_index z l ∷ [])) (Some (slice_index z n)) (slice_index a n) (slice_index b n) (each n (λ i. with_xor (Some (slice_index z i)) (slice_index a i) (slice_index b i)) (begun outer)) (by n (omega (arith, less))) (low n (omega (arith, less))) (inl (first n (omega (arith, less)))) (inl (second n (omega (arith, less))))
