-- Linear algebra over 0 and 1: sums of rows, span, independence and rank.
-- Source: any book on linear algebra, over the field of two elements.
use Rattle.std.specs.Prelude.{◌≡◌, ℕ, ◌*◌, ◌/◌, ◌%◌, ◌<◌, ◌^◌, List, [], ◌∷◌, length, bit_xor}

-- the sum of the rows i with bit i of c set
abbrev pub combination : List ℕ → ℕ → ℕ
combination [] c = 0
combination (r ∷ rs) c = bit_xor (c % 2 * r) (combination rs (c / 2))

-- w is a sum of rows
pub record InSpan (rows : List ℕ) (w : ℕ) : Type 0 where
  pub choice : ℕ
  pub is : combination rows choice ≡ w

-- only the empty sum of rows is 0
pub record IsIndependent (rows : List ℕ) : Type 0 where
  pub only_zero : (c : ℕ) → c < 2 ^ length rows → combination rows c ≡ 0 → c ≡ 0

-- r is the dimension of the span of the rows: a list of r independent numbers has the same sums
pub record IsRank (rows : List ℕ) (r : ℕ) : Type 0 where
  pub basis : List ℕ
  pub count : length basis ≡ r
  pub independent : IsIndependent basis
  pub inside : (c : ℕ) → InSpan rows (combination basis c)
  pub spans : (c : ℕ) → InSpan basis (combination rows c)

-- rows have at most one rank
abbrev pub HasOnlyRank : Type 0
HasOnlyRank = (rows : List ℕ) (r s : ℕ) → IsRank rows r → IsRank rows s → r ≡ s
