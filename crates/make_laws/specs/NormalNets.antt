-- Nets that multiply bit by bit in a normal basis. Source: J. L. Massey and J. K. Omura, Computational method and apparatus for
-- finite field arithmetic, US patent 4,587,627 (1986).
use Rattle.std.specs.Prelude.{◌≡◌, ℕ, zero, suc, ◌-◌, ◌<◌, ◌^◌, Bool, List, [], ◌∷◌}
use Rattle.net_core.specs.Value.{bit_of, IsConsistent}
use Rattle.net_words.specs.declared.word.Role.TheVariants.{State}
use Rattle.gf_basis.specs.Basis.{IsBasis}
use Rattle.gf_basis.specs.BasisFault.{conjugates_of}
use Rattle.circuit_model.specs.Circuit.{Circuit}
use Rattle.circuit_model.specs.Job.{IsJob}
use Rattle.make_laws.specs.Chosen.{chosen}
use Rattle.make_laws.specs.NormalRegisters.{HasNormalCoordinates, last_coordinate_sum}
use Rattle.make_laws.specs.Held.{bit_at_place, net_at, IsHeld, Multiplies}

-- the nets of two factors and of their product, by place, and the net of the last coordinate
pub record NormalNets : Type 0 where
  pub a : List ℕ
  pub b : List ℕ
  pub z : List ℕ
  pub last : ℕ

-- the place before, of k places in a ring
abbrev pub place_before : ℕ → ℕ → ℕ
place_before k zero = k - 1
place_before k (suc i) = i

-- The words of a and b are states and the output word is z, all in the normal basis of gamma; a and b are turned by one place
-- in each cycle; z is moved on by one place and takes the net `last` at its first, which sums the products of bits i of a and
-- j of b for which the product of elements i and j has the last coordinate 1; and there are k cycles after the first.
pub record AreNormalNets (circuit : Circuit) (gamma : ℕ) (coordinates : ℕ → ℕ) (nets : NormalNets) : Type 0 where
  pub words : circuit.words ≡ record { role = State; nets = nets.a; basis = conjugates_of circuit.k circuit.product gamma } ∷ record { role = State; nets = nets.b; basis = conjugates_of circuit.k circuit.product gamma } ∷ []
  pub output_nets : circuit.output.nets ≡ nets.z
  pub output_basis : circuit.output.basis ≡ conjugates_of circuit.k circuit.product gamma
  pub cycles : circuit.cycles ≡ circuit.k
  pub a_turns : (i : ℕ) → i < circuit.k → IsHeld circuit.net (net_at nets.a (place_before circuit.k i)) (net_at nets.a i)
  pub b_turns : (i : ℕ) → i < circuit.k → IsHeld circuit.net (net_at nets.b (place_before circuit.k i)) (net_at nets.b i)
  pub z_takes : IsHeld circuit.net nets.last (net_at nets.z 0)
  pub z_moves : (i : ℕ) → suc i < circuit.k → IsHeld circuit.net (net_at nets.z i) (net_at nets.z (suc i))
  pub sums : (bits : List Bool) → IsConsistent circuit.net bits → chosen (bit_of bits nets.last) 1 ≡ last_coordinate_sum circuit.k circuit.product gamma coordinates (bit_at_place bits nets.a) (bit_at_place bits nets.b)

-- a job over such nets has the product at its end, where the conjugates of gamma are a basis, and elements have these coordinates in it
abbrev pub MultipliesTurned : Circuit → (gamma : ℕ) → (ℕ → ℕ) → NormalNets → Type 0
MultipliesTurned circuit gamma coordinates nets =
    IsJob circuit → gamma < 2 ^ circuit.k → IsBasis circuit.k (conjugates_of circuit.k circuit.product gamma) → HasNormalCoordinates circuit.k circuit.product gamma coordinates
    → AreNormalNets circuit gamma coordinates nets → Multiplies circuit
