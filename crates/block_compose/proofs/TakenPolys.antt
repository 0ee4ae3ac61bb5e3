-- The polynomials of the blocks of the first of some numbers.
use Rattle.std.specs.Prelude.{◌≡◌, ℕ, List, Option, Some, length, slice_get}
use Rattle.poly_mixed.specs.Polynomial.{Polynomial}

-- place by place, these are the polynomials of the blocks of the first n of these numbers
pub record AreTakenTo (polys : List (Option Polynomial)) (numbers : List ℕ) (n : ℕ) (list : List Polynomial) : Type 0 where
  pub long : length list ≡ n
  pub each : (i number : ℕ) (poly : Polynomial) → slice_get numbers i ≡ Some number → slice_get list i ≡ Some poly → slice_get polys number ≡ Some (Some poly)
