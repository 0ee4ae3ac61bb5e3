-- A field as one value. Source: Lidl and Niederreiter, Finite Fields, chapter 1, section 2.
use Rattle.std.specs.Prelude.{ℕ}
use Rattle.gf_field.specs.Ring.{IsRing}
use Rattle.gf_field.specs.Field.{HasNoZeroDivisors}

-- a field of 2 to the k elements with its product: a finite ring without zero divisors
pub record FieldLaws : Type 0 where
  pub k : ℕ
  pub product : ℕ → ℕ → ℕ
  pub ring : IsRing k product
  pub no_zero_divisors : HasNoZeroDivisors k product
