-- The gates and latches of a multiplier in a normal basis. Source: J. L. Massey and J. K. Omura, Computational method and
-- apparatus for finite field arithmetic, US patent 4,587,627 (1986).
use Rattle.std.specs.Prelude.{ℕ, zero, suc, Bool, true, false, List, [], ◌∷◌, ◌++◌, None}
use Rattle.net_core.specs.LatchValue.{LatchValue}
use Rattle.net_core.specs.declared.latch.Start.TheVariants.{Zero, Unknown}
use Rattle.make_nets.specs.Plan.{Plan, begun, each, gathered, with_and, with_chain, chain_net}
use Rattle.make_laws.specs.Held.{net_at}
use Rattle.make_laws.specs.NormalNets.{place_before}

-- the gates so far, and the nets of products of two bits
pub record Products : Type 0 where
  pub plan : Plan
  pub nets : List ℕ

-- one more product, where it counts
abbrev pub with_product : Bool → ℕ → ℕ → Products → Products
with_product false a b products = products
with_product true a b products = record { plan = with_and None a b products.plan; nets = products.nets ++ products.plan.next ∷ [] }

-- the products of bit i of a and the bits j of b that count, by j
abbrev pub with_row : ℕ → (ℕ → ℕ → Bool) → List ℕ → List ℕ → ℕ → Products → Products
with_row k counts a b i products = each k (λ j. with_product (counts i j) (net_at a i) (net_at b j)) products

-- all products that count, by i and then j, where inner nets are numbered from n
abbrev pub products_from : ℕ → ℕ → (ℕ → ℕ → Bool) → List ℕ → List ℕ → Products
products_from n k counts a b = each k (with_row k counts a b) (record { plan = begun n; nets = [] })

-- the chain of them
abbrev pub summed : Products → Plan
summed products = with_chain None products.nets products.plan

-- the net of their sum
abbrev pub sum_net : Products → ℕ
sum_net products = chain_net None products.nets products.plan

-- what turns a word of k bits by one place in each cycle
abbrev pub turning : ℕ → List ℕ → List LatchValue
turning k a = gathered k (λ i. record { next = net_at a (place_before k i); out = net_at a i; start = Unknown } ∷ [])

-- the net before the one at a place, and another one before the first
abbrev pub moved_from : ℕ → List ℕ → ℕ → ℕ
moved_from first z zero = first
moved_from first z (suc i) = net_at z i

-- what moves a word of k bits on by one place in each cycle, and takes a net at its first place
abbrev pub moving : ℕ → ℕ → List ℕ → List LatchValue
moving k first z = gathered k (λ i. record { next = moved_from first z i; out = net_at z i; start = Zero } ∷ [])

-- the latches of both factors, and of the product, which takes the sum
abbrev pub normal_latches : ℕ → ℕ → List ℕ → List ℕ → List ℕ → List LatchValue
normal_latches k sum a b z = turning k a ++ turning k b ++ moving k sum z
