-- Stages of which none of the first ones is over a bound.
use Rattle.std.specs.Prelude.{ℕ, ◌<◌}
use Rattle.poly_mixed.specs.Polynomial.{Point}
use Rattle.stage_model.specs.Stage.{IsWithin}

module _ (k : ℕ) (mul : ℕ → ℕ → ℕ) where
  -- none of the first `count` stages is over the bound
  abbrev pub IsNoneOver : (ℕ → Point → ℕ → Type 0) → ℕ → ℕ → Type 0
  IsNoneOver stages count bound = (i : ℕ) → i < count → IsWithin k mul (stages i) bound
