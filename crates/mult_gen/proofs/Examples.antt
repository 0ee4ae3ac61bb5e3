-- Small makers, computed.
use Rattle.std.proofs.Common.{◌≡◌, refl, ℕ, List, [], ◌∷◌}
use Rattle.net_core.specs.GateValue.{GateValue}
use Rattle.mult_gen.specs.Chains.{adder_plan}

gate : ℕ → List ℕ → ℕ → GateValue
gate out inputs table = record { out = out; inputs = inputs; table = table }

-- the adder of two words of two bits, on the nets 0 to 3, into the nets 4 and 5
adder : adder_plan 6 2 (0 ∷ 1 ∷ []) (2 ∷ 3 ∷ []) (4 ∷ 5 ∷ []) ≡ record { next = 6; gates = gate 4 (0 ∷ 2 ∷ []) 6 ∷ gate 5 (1 ∷ 3 ∷ []) 6 ∷ [] }
unfolding gate
adder = refl
