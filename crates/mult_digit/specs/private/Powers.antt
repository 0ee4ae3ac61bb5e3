-- Tables of powers. Source: this project's own.
use Rattle.std.specs.Prelude.{◌≡◌, ℕ, ◌<◌, List, slice_index}
use Rattle.gf_field.specs.Power.{power}

-- entry i is x to the i, for i below 128
abbrev pub ArePowers : (ℕ → ℕ → ℕ) → ℕ → List ℕ → Type 0
ArePowers mul x powers = (i : ℕ) → i < 128 → slice_index powers i ≡ power mul x i
