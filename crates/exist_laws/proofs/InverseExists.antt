-- Independent rows have an inverse.
use Rattle.std.proofs.Common.{◌≡◌, ◌∙◌, ap, sym, subst, ℕ, ◌<◌, ◌^◌, ◌%◌, pow_pos, arith, List, get_or, length}
use Rattle.std.proofs.Math.Nat.{mod-lt}
use Rattle.std.proofs.lemmas.Nat.{pow_below}
use native.Mathlib.Nat.{mod-eq_of_lt}
use Rattle.gf_field.specs.laws.PigeonholeLaws.{FoundAt}
use Rattle.irreducible.specs.Matrix.{AreInverse, IsSquare}
use Rattle.irreducible.specs.Span.{combination, IsIndependent}
use Rattle.irreducible.specs.laws.AdditiveLaws.{additive-combination, IsAdditive-combination, IsAdditive-self}
use Rattle.irreducible.specs.laws.SpanLaws.{combination_below}
use Rattle.irreducible.proofs.InverseMatrixLaws.{sums_apart, sums_reach}
use Rattle.gf_basis.specs.Basis.{first_values}
use Rattle.gf_basis.proofs.CodeLaws.{get_or-first_values, length-first_values}

module _ (rows : List ℕ) (square : IsSquare rows) (free : IsIndependent rows) where
  found : (i : ℕ) → FoundAt (combination rows) (2 ^ length rows) (2 ^ i % 2 ^ length rows)
  found i = sums_reach rows square free (2 ^ i % 2 ^ length rows) (mod-lt (2 ^ i) (pow_pos (length rows)))

  row_of : ℕ → ℕ
  row_of i = (found i).at

  inverse : List ℕ
  inverse = first_values (length rows) row_of

  size : length inverse ≡ length rows
  unfolding inverse
  size = length-first_values (length rows) row_of

  row_is : (i : ℕ) → i < length rows → get_or inverse i 0 ≡ row_of i
  unfolding inverse
  row_is i less = get_or-first_values (length rows) row_of i less

  row_low : (i : ℕ) → row_of i < 2 ^ length rows
  unfolding row_of
  row_low i = (found i).below

  row_unit : (i : ℕ) → i < length rows → combination rows (row_of i) ≡ 2 ^ i
  unfolding row_of
  row_unit i less = (found i).is ∙ mod-eq_of_lt (pow_below i (length rows) less)

  rows_low : (i : ℕ) → i < length inverse → get_or inverse i 0 < 2 ^ length rows
  rows_low i less = let P : ℕ → Type 0 = λ x. x < 2 ^ length rows in subst P (sym (row_is i (omega (arith, size, less)))) (row_low i)

  after : (v : ℕ) → v < 2 ^ length rows → combination rows (combination inverse v) ≡ v
  after v low =
      let P : ℕ → Type 0 = λ n. v < 2 ^ n in
      additive-combination inverse (combination rows) (λ x. x) (IsAdditive-combination rows) IsAdditive-self (λ i less. let here : i < length rows = omega (arith, size, less) in ap (combination rows) (row_is i here) ∙ row_unit i here) v
      ∙ mod-eq_of_lt (subst P (sym size) low)

  within : (v : ℕ) → combination inverse v < 2 ^ length rows
  within v = combination_below inverse (length rows) v rows_low

  whole : (v : ℕ) → combination rows v < 2 ^ length rows
  whole v = combination_below rows (length rows) v square

  before : (v : ℕ) → v < 2 ^ length rows → combination inverse (combination rows v) ≡ v
  before v low = sums_apart rows free (combination inverse (combination rows v)) v (within (combination rows v)) low (after (combination rows v) (whole v))

  squared : IsSquare inverse
  squared i less = let P : ℕ → Type 0 = λ n. get_or inverse i 0 < 2 ^ n in subst P (sym size) (rows_low i less)

  pub some_inverse : (other : List ℕ) × AreInverse rows other
  some_inverse = (inverse, record { size = size; square = squared; after = after; before = before })
