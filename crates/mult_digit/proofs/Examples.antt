-- Small worked examples of the definitions of specs/, which the check computes.
use Rattle.std.specs.Prelude.{◌≡◌, refl, [], ◌∷◌}
use Rattle.net_core.specs.declared.latch.Start.TheVariants.{Zero}
use Rattle.mult_digit.specs.DigitPlan.{digit_latches, products_from}
use Rattle.mult_digit.specs.private.ProductNets.{product_net}

-- two products of bits of a digit of two bits and one bit: on the nets 4 and 5
products_are : (products_from 4 1 (2 ∷ 3 ∷ []) (0 ∷ [])).gates ≡ record { out = 4; inputs = 2 ∷ 0 ∷ []; table = 8 } ∷ record { out = 5; inputs = 3 ∷ 0 ∷ []; table = 8 } ∷ []
products_are = refl

-- the product of bit 1 of a digit and bit 2 of three bits, where products are numbered from 9
product_is : product_net 9 3 1 2 ≡ 14
product_is = refl

-- z takes the sum on net 6, and starts with 0
latches_are : digit_latches 1 (6 ∷ []) (1 ∷ []) ≡ record { next = 6; out = 1; start = Zero } ∷ []
latches_are = refl
