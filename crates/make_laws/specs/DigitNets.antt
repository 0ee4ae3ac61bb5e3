-- Nets that multiply digit by digit, the highest digit first. Source: L. Song and K. K. Parhi, Low-energy digit-serial/parallel
-- finite field multipliers, Journal of VLSI Signal Processing 19 (1998).
use Rattle.std.specs.Prelude.{◌≡◌, ℕ, suc, ◌+◌, ◌-◌, ◌*◌, ◌<◌, ◌≤◌, ◌^◌, ◌==◌, Bool, List, [], ◌∷◌, get_or}
use Rattle.std.specs.Int.{bit_at}
use Rattle.net_core.specs.Value.{IsConsistent, index_of}
use Rattle.net_words.specs.declared.word.Role.TheVariants.{Fed, Input}
use Rattle.gf_basis.specs.Basis.{AreBits, first_values}
use Rattle.irreducible.specs.Span.{combination}
use Rattle.circuit_model.specs.declared.circuit_feed.FeedSource.TheVariants.{Bit}
use Rattle.circuit_model.specs.Circuit.{Circuit, IsFed, IsInNoWord}
use Rattle.circuit_model.specs.Feeds.{source_at}
use Rattle.circuit_model.specs.Job.{IsJob}
use Rattle.circuit_model.specs.Run.{IsRun}
use Rattle.make_laws.specs.Chosen.{chosen}
use Rattle.make_laws.specs.DigitRegisters.{HasUnitPowers, digit_step_sum, highest_digits}
use Rattle.make_laws.specs.Held.{bit_at_place, net_at, IsHeldFromZero, Multiplies}

-- the nets of a digit, of a factor and of the product, by place, and those of the sums that the product takes
pub record DigitNets : Type 0 where
  pub d : List ℕ
  pub b : List ℕ
  pub z : List ℕ
  pub sums : List ℕ

-- the basis of the powers of x, which are the numbers 2 to the i
abbrev pub unit_basis : ℕ → List ℕ
unit_basis k = first_values k (λ i. 2 ^ i)

-- The words are a, which is fed, and b, and the output word is z; a digit of a is on the nets d in each cycle, the highest
-- first; z starts with zeros and takes the sums: of the bits i of z for which bit l of x^(i + D) is 1, and of the products of
-- bit e of the digit and bit j of b for which bit l of x^(e + j) is 1; D is the width of a digit.
pub record AreDigitNets (circuit : Circuit) (x width : ℕ) (nets : DigitNets) : Type 0 where
  pub words : circuit.words ≡ record { role = Fed; nets = []; basis = unit_basis circuit.k } ∷ record { role = Input; nets = nets.b; basis = unit_basis circuit.k } ∷ []
  pub output_nets : circuit.output.nets ≡ nets.z
  pub output_basis : circuit.output.basis ≡ unit_basis circuit.k
  pub cycles : circuit.k ≡ width * circuit.cycles
  pub are_fed : (e : ℕ) → e < width → IsFed circuit (net_at nets.d e)
  pub feeds : (t e : ℕ) → t < circuit.cycles → e < width → source_at circuit.feeds (net_at nets.d e) t ≡ Bit 0 (circuit.k - width * suc t + e)
  pub unnamed : (l : ℕ) → l < circuit.k → IsInNoWord circuit (net_at nets.z l)
  pub z_takes : (l : ℕ) → l < circuit.k → IsHeldFromZero circuit.net (net_at nets.sums l) (net_at nets.z l)
  pub sums : (bits : List Bool) → IsConsistent circuit.net bits → (l : ℕ) → l < circuit.k → chosen (bit_at_place bits nets.sums l) 1 ≡ digit_step_sum circuit.k circuit.product x width (bit_at_place bits nets.z) (bit_at_place bits nets.d) (bit_at_place bits nets.b) l

-- a job over such nets has the product at its end
abbrev pub MultipliesFed : Circuit → (x width : ℕ) → DigitNets → Type 0
MultipliesFed circuit x width nets = IsJob circuit → HasUnitPowers circuit.k circuit.product x → AreDigitNets circuit x width nets → Multiplies circuit

-- In each run at a and b: after t cycles the nets z have the element of what was fed so far, the t highest digits of a, times b.
abbrev pub HoldSumsSoFar : Circuit → (x width : ℕ) → (z : List ℕ) → Type 0
HoldSumsSoFar circuit x width z =
    (a b bits t : ℕ) (run : List (List Bool)) → IsRun circuit (a ∷ b ∷ []) run → AreBits (unit_basis circuit.k) a bits → t ≤ circuit.cycles
    → combination (unit_basis circuit.k) (index_of (get_or run t []) z) ≡ circuit.product (highest_digits circuit.k circuit.product x width (λ i. bit_at bits i == 1) t) b

-- so it is with the nets of the product in a job over such nets
abbrev pub HoldFedSums : Circuit → (x width : ℕ) → DigitNets → Type 0
HoldFedSums circuit x width nets = IsJob circuit → HasUnitPowers circuit.k circuit.product x → AreDigitNets circuit x width nets → HoldSumsSoFar circuit x width nets.z
