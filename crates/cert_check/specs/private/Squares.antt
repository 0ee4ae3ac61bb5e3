-- Sums of multiples of the linear forms of a word's bits. Source: this project's own.
use Rattle.std.specs.Prelude.{◌≡◌, ℕ, ◌<◌, List, bit_xor, length, slice_index}
use Rattle.gf_field.specs.Polynomial.{sum_of_first}
use Rattle.gf_field.specs.Trace.{frobenius}
use Rattle.poly_mixed.specs.Polynomial.{IsElement}

-- an element squared j times
abbrev pub conjugates : (ℕ → ℕ → ℕ) → ℕ → ℕ → ℕ
conjugates mul d j = frobenius mul j d

module _ (k : ℕ) (mul : ℕ → ℕ → ℕ) where
  -- each of the first k entries grows by c times that of `from`
  abbrev pub GrowByMultiples : ℕ → (ℕ → ℕ) → List ℕ → List ℕ → Type 0
  GrowByMultiples c from old new = (j : ℕ) → j < k → slice_index new j ≡ bit_xor (slice_index old j) (mul c (from j))

  -- the coefficients are an element's multiples of the basis
  pub record AreMultiples (elements : List ℕ) (c : ℕ) (coefficients : List ℕ) : Type 0 where
    pub element : IsElement k c
    pub each : (i : ℕ) → i < k → slice_index coefficients i ≡ mul c (slice_index elements i)

  -- what the repeated squares of the word are multiplied by in the sum of the first n of the forms
  pub record AreSquares (duals coefficients : List ℕ) (n : ℕ) (squares : List ℕ) : Type 0 where
    pub long : length squares ≡ k
    pub each : (j : ℕ) → j < k → slice_index squares j ≡ sum_of_first n (λ i. mul (slice_index coefficients i) (frobenius mul j (slice_index duals i)))
