use Rattle.std.proofs.Common.{◌≡◌, ◌≤◌, ◌+◌, ◌*◌, ◌/◌, ◌%◌, ℕ, Some}
use Rattle.std.specs.Prelude.{slice_index}
use Rattle.gf_field.specs.Bit.{bit_mul}
use Rattle.gf_field.specs.Quotient.{product}
use Rattle.gf_field.specs.Ring2k.{modulus_of}
use Rattle.irreducible.specs.Proved.{ring_of}
use Rattle.make_nets.specs.Plan.{each, with_chain}
use Rattle.mult_composite.specs.Composite.{added_sums}
use Rattle.mult_composite.specs.private.HighPowers.{AreHighPowers}
use Rattle.mult_composite.proofs.sums.reduced_sums.Given as goal

abbrev pub invariant-loop-p : goal.invariant-loop-p
invariant-loop-p l =
    ((t : ℕ) → AreHighPowers l.n l.m (product 1 l.n bit_mul (modulus_of (ring_of l.base))) t l.powers → l.plan ≡ each l.p (λ p. with_chain (Some (slice_index l.z p)) (added_sums l.n (modulus_of (ring_of l.base)) l.m t l.sums (p / l.n) (p % l.n))) l.fn.plan)
    × (l.plan.next ≤ l.fn.plan.next + l.p * 66)
