-- The products that count in a basis. Source: this project's own.
use Rattle.std.specs.Prelude.{ℕ, List}
use Rattle.make_nets.specs.Plan.{each}
use Rattle.mult_normal.specs.Coordinates.{counts_in}
use Rattle.mult_normal.specs.NormalPlan.{Products, products_from, with_row}

-- those of bit i of a, in the basis of these elements
abbrev pub counted_row : ℕ → (ℕ → ℕ → ℕ) → (elements a b : List ℕ) → ℕ → Products → Products
counted_row k mul elements a b i products = with_row k (counts_in k mul elements) a b i products

-- those of all k bits
abbrev pub counted_rows : ℕ → (ℕ → ℕ → ℕ) → (elements a b : List ℕ) → Products → Products
counted_rows k mul elements a b products = each k (with_row k (counts_in k mul elements) a b) products

-- those alone, where inner nets are numbered from n
abbrev pub counted_products : ℕ → ℕ → (ℕ → ℕ → ℕ) → (elements a b : List ℕ) → Products
counted_products n k mul elements a b = products_from n k (counts_in k mul elements) a b
