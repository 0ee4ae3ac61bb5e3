-- A bit of a word as a sum of powers of the word.
use Rattle.std.proofs.Common.{◌≡◌, ap, sym, ℕ, suc, ◌<◌, ◌≤◌, ◌+◌, ◌*◌, ◌%◌, ◌^◌, List, bit_xor, arith}
use Rattle.std.specs.Prelude.{slice_index}
use Rattle.std.proofs.lemmas.Nat.{one_shl}
use Rattle.gf_field.specs.Ring.{IsRing}
use Rattle.gf_field.specs.Power.{power}
use Rattle.gf_field.specs.Polynomial.{sum_of_first}
use Rattle.gf_field.specs.Trace.{frobenius}
use Rattle.gf_field.specs.laws.TraceLaws.{frobenius-power}
use Rattle.gf_basis.specs.Dual.{linear_value}
use Rattle.gf_field.proofs.SharedLemmas.{same_sum}
use Rattle.poly_mixed.specs.Polynomial.{Terms, Point, IsPoint, IsReduced, value}

-- the first m summands of a linear form
abbrev pub part_value : (ℕ → ℕ → ℕ) → List ℕ → ℕ → ℕ → ℕ
part_value mul linear x m = sum_of_first m (λ i. mul (slice_index linear i) (power mul x (2 ^ i)))

pub record IsPart (k : ℕ) (mul : ℕ → ℕ → ℕ) (linear : List ℕ) (word m : ℕ) (ts : Terms) : Type 0 where
  pub reduced : IsReduced k ts
  pub values : (p : Point) → IsPoint k p → value mul p ts ≡ part_value mul linear (slice_index p.words word) m

pub whole_value : (k : ℕ) (mul : ℕ → ℕ → ℕ) (linear : List ℕ) (x : ℕ) → IsRing k mul → x < 2 ^ k → part_value mul linear x k ≡ linear_value k mul linear x
whole_value k mul linear x ring less = same_sum k (λ i. mul (slice_index linear i) (power mul x (2 ^ i))) (λ i. mul (slice_index linear i) (frobenius mul i x)) (λ i low. ap (mul (slice_index linear i)) (sym (frobenius-power k mul ring i x less)))

pub next_part : (mul : ℕ → ℕ → ℕ) (linear : List ℕ) (x m : ℕ) → part_value mul linear x (m + 1) ≡ bit_xor (part_value mul linear x m) (mul (slice_index linear m) (power mul x (2 ^ m)))
next_part mul linear x m = let e : m + 1 ≡ suc m = omega arith in ap (part_value mul linear x) e

pub exponent_is : (j k : ℕ) → j < k → k ≤ 64 → (1 * 2 ^ j) % 2 ^ 64 ≡ 2 ^ j
exponent_is j k less small = one_shl j 64 (omega arith)
