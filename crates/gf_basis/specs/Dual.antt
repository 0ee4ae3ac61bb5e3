-- Dual bases and linearised polynomials (Lidl and Niederreiter, Finite Fields, chapter 2, section 3, and chapter 3, section 4).
use Rattle.std.specs.Prelude.{◌≡◌, ◌≢◌, ℕ, ◌<◌, List, length, slice_index}
use Rattle.gf_field.specs.Element.{AreElements}
use Rattle.gf_field.specs.Polynomial.{sum_of_first}
use Rattle.gf_field.specs.Trace.{frobenius, trace}
use Rattle.gf_basis.specs.Basis.{IsBasis}

-- the trace of dual i times element j is 1 where i is j, else 0
pub record AreDual (k : ℕ) (mul : ℕ → ℕ → ℕ) (elements duals : List ℕ) : Type 0 where
  pub size : length duals ≡ k
  pub inside : AreElements k duals
  pub same : (i : ℕ) → i < k → trace mul k (mul (slice_index duals i) (slice_index elements i)) ≡ 1
  pub other : (i j : ℕ) → i < k → j < k → i ≢ j → trace mul k (mul (slice_index duals i) (slice_index elements j)) ≡ 0

-- the sum of coefficient j times x squared j times, for j below k
abbrev pub linear_value : ℕ → (ℕ → ℕ → ℕ) → List ℕ → ℕ → ℕ
linear_value k mul coefficients x = sum_of_first k (λ j. mul (slice_index coefficients j) (frobenius mul j x))

-- a basis has one dual
abbrev pub HasOnlyDuals : ℕ → (ℕ → ℕ → ℕ) → Type 0
HasOnlyDuals k mul = (elements duals others : List ℕ) → IsBasis k elements → AreDual k mul elements duals → AreDual k mul elements others → duals ≡ others
