-- Gates by given powers of Y, where these are those of a tower by t. Source: this project's own.
use Rattle.std.specs.Prelude.{◌≡◌, ℕ, ◌/◌, ◌%◌, List, slice_index}
use Rattle.gf_field.specs.Bit.{bit_mul}
use Rattle.gf_field.specs.Polynomial.{coefficient}
use Rattle.gf_field.specs.Quotient.{product}
use Rattle.make_laws.specs.ProductBits.{x_to}
use Rattle.make_nets.specs.Plan.{Plan}
use Rattle.make_nets.specs.Row.{Row}
use Rattle.mult_composite.specs.Composite.{added_sums, composite_plan, reduced_sums}
use Rattle.mult_composite.specs.private.HighPowers.{AreHighPowers}

-- coefficient e of the power that place q is in, times the power of x that it is
abbrev pub factor_at : (n g : ℕ) → (powers : List ℕ) → (e q : ℕ) → ℕ
factor_at n g powers e q = product 1 n bit_mul g (x_to n g (q % n)) (coefficient n (slice_index powers (q / n)) e)

-- the nets that add to bit l of coefficient e
abbrev pub AreAddedBy : (n g m : ℕ) → (powers sums : List ℕ) → (e l : ℕ) → (list : List ℕ) → Type 0
AreAddedBy n g m powers sums e l list = (t : ℕ) → AreHighPowers n m (product 1 n bit_mul g) t powers → list ≡ added_sums n g m t sums e l

-- the bits of the product, from these sums
abbrev pub IsReducedBy : (n g m : ℕ) → (powers z : List ℕ) → Row → Plan → Type 0
IsReducedBy n g m powers z sums plan = (t : ℕ) → AreHighPowers n m (product 1 n bit_mul g) t powers → plan ≡ reduced_sums n g m t z sums

-- all gates
abbrev pub IsPlanBy : (n g m : ℕ) → (powers : List ℕ) → (outer : ℕ) → (a b z : List ℕ) → Plan → Type 0
IsPlanBy n g m powers outer a b z plan = (t : ℕ) → AreHighPowers n m (product 1 n bit_mul g) t powers → plan ≡ composite_plan outer n g m t a b z
