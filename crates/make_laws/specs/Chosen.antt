-- Sums of chosen elements. Source: this project's own.
use Rattle.std.specs.Prelude.{ℕ, Bool, true, false}
use Rattle.gf_field.specs.Polynomial.{sum_of_first}

-- the element where the bit is 1, else 0
abbrev pub chosen : Bool → ℕ → ℕ
chosen true x = x
chosen false x = 0

-- the sum of the elements f 0 to f (n - 1) whose bit is 1
abbrev pub sum_of_chosen : ℕ → (ℕ → Bool) → (ℕ → ℕ) → ℕ
sum_of_chosen n a f = sum_of_first n (λ i. chosen (a i) (f i))
