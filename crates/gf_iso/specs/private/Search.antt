-- The least root among sums of words. Source: this project's own.
use Rattle.std.specs.Prelude.{◌≡◌, ◌≢◌, ℕ, ◌≤◌, ◌<◌, ◌^◌, ◌⊎◌, List, bit_xor, Option, None, Some}
use Rattle.irreducible.specs.Span.{combination}

-- y is the least number at which f is 0 among the start plus the sums of the vectors
pub record IsLeastIn (k : ℕ) (f : ℕ → ℕ) (vectors : List ℕ) (start y : ℕ) : Type 0 where
  pub element : y < 2 ^ k
  pub choice : ℕ
  pub among : bit_xor start (combination vectors choice) ≡ y
  pub root : f y ≡ 0
  pub least : (c : ℕ) → f (bit_xor start (combination vectors c)) ≡ 0 → y ≤ bit_xor start (combination vectors c)

-- the least one; none only where f is 0 at none of them
abbrev pub IsLeastOf : (k : ℕ) (f : ℕ → ℕ) (vectors : List ℕ) (start : ℕ) → Option ℕ → Type 0
IsLeastOf k f vectors start None = (c : ℕ) → f (bit_xor start (combination vectors c)) ≢ 0
IsLeastOf k f vectors start (Some y) = IsLeastIn k f vectors start y

-- y is the lesser of a and b
pub record IsLesser (a b y : ℕ) : Type 0 where
  pub first : y ≤ a
  pub second : y ≤ b
  pub is : (y ≡ a) ⊎ (y ≡ b)

-- the lesser of two numbers, or the only one
abbrev pub IsLesserOf : Option ℕ → Option ℕ → Option ℕ → Type 0
IsLesserOf None second result = result ≡ second
IsLesserOf (Some a) None result = result ≡ Some a
IsLesserOf (Some a) (Some b) None = ⊥
IsLesserOf (Some a) (Some b) (Some y) = IsLesser a b y
