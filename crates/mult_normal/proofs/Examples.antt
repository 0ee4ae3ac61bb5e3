-- Small worked examples of the definitions of specs/, which the check computes: a multiplier over two bits on the nets 0 and 1
-- of a, 2 and 3 of b, and 4 and 5 of z, where the products of bits 0 and 1 and of bits 1 and 0 count.
use Rattle.std.specs.Prelude.{◌≡◌, refl, ℕ, zero, suc, Bool, true, false, [], ◌∷◌}
use Rattle.net_core.specs.declared.latch.Start.TheVariants.{Zero, Unknown}
use Rattle.mult_normal.specs.NormalPlan.{Products, normal_latches, products_from, sum_net, summed}

counts : ℕ → ℕ → Bool
counts zero zero = false
counts zero (suc j) = true
counts (suc i) zero = true
counts (suc i) (suc j) = false

products : Products
products = products_from 6 2 counts (0 ∷ 1 ∷ []) (2 ∷ 3 ∷ [])

-- two products, on the nets 6 and 7
product_nets : products.nets ≡ 6 ∷ 7 ∷ []
unfolding counts products
product_nets = refl

-- a_0 and b_1, a_1 and b_0, and their sum on net 8
gates_are : (summed products).gates ≡ record { out = 6; inputs = 0 ∷ 3 ∷ []; table = 8 } ∷ record { out = 7; inputs = 1 ∷ 2 ∷ []; table = 8 } ∷ record { out = 8; inputs = 6 ∷ 7 ∷ []; table = 6 } ∷ []
unfolding counts products
gates_are = refl

sum_is : sum_net products ≡ 8
unfolding counts products
sum_is = refl

-- a and b are turned, z takes net 8
latches_are : normal_latches 2 8 (0 ∷ 1 ∷ []) (2 ∷ 3 ∷ []) (4 ∷ 5 ∷ []) ≡
    record { next = 1; out = 0; start = Unknown } ∷ record { next = 0; out = 1; start = Unknown }
    ∷ record { next = 3; out = 2; start = Unknown } ∷ record { next = 2; out = 3; start = Unknown }
    ∷ record { next = 8; out = 4; start = Zero } ∷ record { next = 4; out = 5; start = Zero } ∷ []
latches_are = refl
