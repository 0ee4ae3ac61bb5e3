-- The multiplier of the tower by Y^2 + Y + 1 over the field of 0 and 1, computed by hand: nets 0 and 1 are the first factor, 2
-- and 3 the second, 4 and 5 the product.
use Rattle.std.proofs.Common.{◌≡◌, refl, [], ◌∷◌, ℕ, List}
use Rattle.gf_field.specs.Power.{power}
use Rattle.gf_field.specs.Quotient.{product}
use Rattle.net_core.specs.GateValue.{GateValue}
use Rattle.mult_composite.specs.Composite.{composite_plan}

gate : ℕ → List ℕ → ℕ → GateValue
gate out inputs table = record { out = out; inputs = inputs; table = table }

-- four products of coefficients, each with its sum, the sums by place, and the product; 8 is the table of and, 6 that of
-- exclusive or, 2 that of a buffer
four_products : (composite_plan 6 1 3 2 7 (0 ∷ 1 ∷ []) (2 ∷ 3 ∷ []) (4 ∷ 5 ∷ [])).gates
    ≡ gate 6 (0 ∷ 2 ∷ []) 8 ∷ gate 7 (6 ∷ []) 2 ∷ gate 8 (0 ∷ 3 ∷ []) 8 ∷ gate 9 (8 ∷ []) 2
    ∷ gate 10 (1 ∷ 2 ∷ []) 8 ∷ gate 11 (10 ∷ []) 2 ∷ gate 12 (1 ∷ 3 ∷ []) 8 ∷ gate 13 (12 ∷ []) 2
    ∷ gate 14 (7 ∷ []) 2 ∷ gate 15 (9 ∷ 11 ∷ []) 6 ∷ gate 16 (13 ∷ []) 2
    ∷ gate 4 (14 ∷ 16 ∷ []) 6 ∷ gate 5 (15 ∷ 16 ∷ []) 6 ∷ []
unfolding gate power product
four_products = refl
