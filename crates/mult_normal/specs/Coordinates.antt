-- Coordinates in a basis. Source: Lidl and Niederreiter, Finite Fields, chapter 2: an element is the sum of exactly one choice
-- of the elements of a basis.
use Rattle.std.specs.Prelude.{ℕ, ◌-◌, ◌==◌, Bool, slice_index, zero, suc, ◌<◌, ◌^◌, List, cond, length}
use Rattle.std.specs.Int.{bit_at}
use Rattle.gf_basis.specs.Basis.{AreBits, IsBasis}
use Rattle.irreducible.specs.Span.{combination}

-- a number below n that has the property; 0 where there is none
unfoldable pub found_below : ℕ → (ℕ → Bool) → ℕ
found_below zero property = 0
found_below (suc n) property = cond (property n) n (found_below n property)

-- the coordinates of x as bits: bit i says whether element i is chosen, and x is the sum of the chosen elements
unfoldable pub coordinates_in : List ℕ → ℕ → ℕ
coordinates_in elements x = found_below (2 ^ length elements) (λ bits. combination elements bits == x)

-- coordinate k - 1 of the product of elements i and j of the basis
abbrev pub product_coordinate : ℕ → (ℕ → ℕ → ℕ) → List ℕ → ℕ → ℕ → ℕ
product_coordinate k mul elements i j = bit_at (coordinates_in elements (mul (slice_index elements i) (slice_index elements j))) (k - 1)

-- whether it is 1
abbrev pub counts_in : ℕ → (ℕ → ℕ → ℕ) → List ℕ → ℕ → ℕ → Bool
counts_in k mul elements i j = product_coordinate k mul elements i j == 1

-- the coordinates of an element in a basis are its bits
abbrev pub HaveCoordinates : ℕ → Type 0
HaveCoordinates k = (elements : List ℕ) (x : ℕ) → IsBasis k elements → x < 2 ^ k → AreBits elements x (coordinates_in elements x)
