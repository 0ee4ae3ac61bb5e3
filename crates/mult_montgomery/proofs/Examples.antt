-- The multiplier modulo x^2 + x + 1, computed by hand: nets 0 and 1 are the first factor, 2 and 3 the second, 4 and 5 the product.
use Rattle.std.proofs.Common.{◌≡◌, refl, [], ◌∷◌, ℕ, List}
use Rattle.net_core.specs.GateValue.{GateValue}
use Rattle.mult_montgomery.specs.Montgomery.{montgomery_plan}

gate : ℕ → List ℕ → ℕ → GateValue
gate out inputs table = record { out = out; inputs = inputs; table = table }

-- a round of three gates, one of five, and two buffers; 8 is the table of and, 6 that of exclusive or, 2 that of a buffer
two_rounds : (montgomery_plan 6 2 7 (0 ∷ 1 ∷ []) (2 ∷ 3 ∷ []) (4 ∷ 5 ∷ [])).gates
    ≡ gate 6 (0 ∷ 2 ∷ []) 8 ∷ gate 7 (0 ∷ 3 ∷ []) 8 ∷ gate 8 (7 ∷ 6 ∷ []) 6
    ∷ gate 9 (1 ∷ 2 ∷ []) 8 ∷ gate 10 (1 ∷ 3 ∷ []) 8 ∷ gate 11 (8 ∷ 9 ∷ []) 6 ∷ gate 12 (6 ∷ 10 ∷ []) 6 ∷ gate 13 (12 ∷ 11 ∷ []) 6
    ∷ gate 4 (13 ∷ []) 2 ∷ gate 5 (11 ∷ []) 2 ∷ []
unfolding gate
two_rounds = refl
