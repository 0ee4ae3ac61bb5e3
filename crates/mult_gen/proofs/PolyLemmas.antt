-- The basis of powers, and numbers by their bits.
use Rattle.std.proofs.Common.{◌≡◌, ◌∙◌, ap, ℕ, ◌<◌, ◌^◌, Bool, List, length, arith}
use Rattle.std.specs.Prelude.{slice_index}
use Rattle.std.specs.Int.{bit_at}
use Rattle.std.proofs.lemmas.Nat.Bits.{same_from_bits_below}
use Rattle.circuit_model.proofs.WordLemmas.{index_small}
use Rattle.gf_basis.specs.Basis.{first_values, IsBasis}
use Rattle.gf_basis.proofs.BasisLaws.{AreIndependentLists-all}
use Rattle.gf_basis.proofs.CodeLaws.{AreElements-units, IsIndependent-powers, length-first_values}
use Rattle.net_core.specs.Value.{index_of}
use Rattle.make_nets.specs.PlanValue.{bit_at_net}
use Rattle.make_nets.proofs.PolyLemmas.{index_bit}

-- the powers of 2 are a basis
pub powers_basis : (k : ℕ) → IsBasis k (first_values k (λ i. 2 ^ i))
powers_basis k = (AreIndependentLists-all k (first_values k (λ i. 2 ^ i))).1 (record { size = length-first_values k (λ i. 2 ^ i); inside = AreElements-units k; free = IsIndependent-powers k })

-- the number of the bits of nets is the one with these bits
pub index_is : (bits : List Bool) (nets : List ℕ) (k value : ℕ) → length nets ≡ k → value < 2 ^ k → ((l : ℕ) → l < k → bit_at_net bits (slice_index nets l) ≡ bit_at value l) → index_of bits nets ≡ value
index_is bits nets k value long low each =
    same_from_bits_below k (index_of bits nets) value (omega (arith, index_small bits nets, ap (λ n. 2 ^ n) long)) low (λ l less. index_bit bits nets l (omega (arith, less, long)) ∙ each l less)
