-- A list of powers of x. Source: this project's own.
use Rattle.std.specs.Prelude.{◌≡◌, ℕ, ◌<◌, List, length, slice_index}
use Rattle.make_laws.specs.ProductBits.{x_to}

-- entry e is x^e modulo g, which has degree k
abbrev pub ArePowers : (k g : ℕ) → List ℕ → Type 0
ArePowers k g powers = (e : ℕ) → e < length powers → slice_index powers e ≡ x_to k g e
