-- The gates and latches of a multiplier that takes one factor digit by digit. Source: L. Song and K. K. Parhi, Low-energy
-- digit-serial/parallel finite field multipliers, Journal of VLSI Signal Processing 19 (1998).
use Rattle.std.specs.Prelude.{ℕ, ◌+◌, ◌*◌, ◌==◌, List, [], ◌∷◌, ◌++◌, length, None}
use Rattle.std.specs.Int.{bit_at}
use Rattle.gf_field.specs.Power.{power}
use Rattle.net_core.specs.LatchValue.{LatchValue}
use Rattle.net_core.specs.declared.latch.Start.TheVariants.{Zero}
use Rattle.make_nets.specs.Plan.{Plan, begun, each, gathered, where_so, with_chain, chain_net}
use Rattle.make_laws.specs.Held.{net_at}
use Rattle.mult_gen.specs.Chains.{added_in_row, product_row}

-- the products of bit e of a digit and the k bits j of b, by j
abbrev pub with_row : ℕ → List ℕ → List ℕ → ℕ → Plan → Plan
with_row k d b e = product_row k (net_at d e) b

-- all products, by e and then j, where inner nets are numbered from n
abbrev pub products_from : ℕ → ℕ → List ℕ → List ℕ → Plan
products_from n k d b = each (length d) (with_row k d b) (begun n)

-- The nets whose sum bit l of the product takes: the bits i of z for which bit l of x^(i + D) is 1, and then the products of
-- bits e and j for which bit l of x^(e + j) is 1; D is the width of a digit.
abbrev pub summands : ℕ → ℕ → (ℕ → ℕ → ℕ) → ℕ → ℕ → List ℕ → ℕ → List ℕ
summands n k mul x width z l =
    gathered k (λ i. where_so (bit_at (power mul x (i + width)) l == 1) (net_at z i))
    ++ gathered width (λ e. added_in_row (power mul x) (n + k * e) e l k)

-- the gates so far, and the nets of the sums
pub record Sums : Type 0 where
  pub plan : Plan
  pub nets : List ℕ

-- one more chain
abbrev pub with_sum : List ℕ → Sums → Sums
with_sum list sums = record { plan = with_chain None list sums.plan; nets = sums.nets ++ chain_net None list sums.plan ∷ [] }

-- the products and a chain for each bit of the product
abbrev pub sums_from : ℕ → ℕ → (ℕ → ℕ → ℕ) → ℕ → List ℕ → List ℕ → List ℕ → Sums
sums_from n k mul x d b z = each k (λ l. with_sum (summands n k mul x (length d) z l)) (record { plan = products_from n k d b; nets = [] })

-- the latches of the product, which takes the sums
abbrev pub digit_latches : ℕ → List ℕ → List ℕ → List LatchValue
digit_latches k sums z = gathered k (λ l. record { next = net_at sums l; out = net_at z l; start = Zero } ∷ [])
