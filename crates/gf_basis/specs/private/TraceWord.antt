-- Traces as bits of words, and the matrix of the traces of products of basis elements.
-- Source: Lidl and Niederreiter, Finite Fields, chapter 2 (dual bases and traces).
use Rattle.std.specs.Prelude.{◌≡◌, ℕ, ◌+◌, ◌*◌, ◌%◌, ◌<◌, ◌^◌, List, [], ◌∷◌, length, slice_index, bit_and, count_ones}
use Rattle.gf_field.specs.Trace.{trace}

-- bit i is the trace of element i times x
abbrev pub trace_word : (ℕ → ℕ → ℕ) → ℕ → List ℕ → ℕ → ℕ
trace_word mul k [] x = 0
trace_word mul k (b ∷ bs) x = trace_word mul k bs x * 2 + trace mul k (mul b x)

-- row i has the traces of element i times each element
pub record IsTraceMatrix (mul : ℕ → ℕ → ℕ) (k : ℕ) (elements rows : List ℕ) : Type 0 where
  pub size : length rows ≡ length elements
  pub at : (i : ℕ) → i < length elements → slice_index rows i ≡ trace_word mul k elements (slice_index elements i)

-- the parity of the number of bits that are set in both
abbrev pub parity : ℕ → ℕ → ℕ
parity mask x = count_ones (bit_and mask x) % 2

-- bit i is the parity of row i with the mask
abbrev pub parity_word : List ℕ → ℕ → ℕ
parity_word [] mask = 0
parity_word (r ∷ rs) mask = parity_word rs mask * 2 + parity mask r

-- the trace of an element is its parity with the mask
abbrev pub IsTraceMask : (ℕ → ℕ → ℕ) → ℕ → ℕ → Type 0
IsTraceMask mul k mask = (y : ℕ) → y < 2 ^ k → parity mask y ≡ trace mul k y

-- entry j is 2 to the j squared, for j below k
abbrev pub AreUnitSquares : (ℕ → ℕ → ℕ) → ℕ → List ℕ → Type 0
AreUnitSquares mul k squares = (j : ℕ) → j < k → slice_index squares j ≡ mul (2 ^ j) (2 ^ j)
