-- Laws of texts with a line feed, which is the byte 10.
use Rattle.std.proofs.Common.{◌≡◌, refl, ℕ, zero, suc, ◌<◌, ◌+◌, List, [], ◌∷◌, ◌++◌, length, drop, get_or, arith, add-one}
use Rattle.std.specs.Str.Lines.{lines}

pub no_lines : (bs : List ℕ) → length bs ≡ 0 → lines bs ≡ []
no_lines [] e = refl
no_lines (b ∷ bs) e = absurd (omega arith)

-- a byte of what stands in front
pub front_byte : (xs ys : List ℕ) (k : ℕ) → k < length xs → get_or (xs ++ ys) k 0 ≡ get_or xs k 0
front_byte [] ys k less = absurd (omega (arith, less))
front_byte (x ∷ xs) ys zero less = refl
front_byte (x ∷ xs) ys (suc k) less = front_byte xs ys k (omega (arith, less))

-- the byte at the end of the first line
pub line_end : (xs ys : List ℕ) → get_or (xs ++ 10 ∷ ys) (length xs) 0 ≡ 10
line_end [] ys = refl
line_end (x ∷ xs) ys = line_end xs ys

pub line_within : (xs ys : List ℕ) → length xs < length (xs ++ 10 ∷ ys)
line_within [] ys = omega arith
line_within (x ∷ xs) ys = omega (arith, line_within xs ys)

-- what follows the first line
pub after_line : (xs ys : List ℕ) → drop (suc (length xs)) (xs ++ 10 ∷ ys) ≡ ys
after_line [] ys = refl
after_line (x ∷ xs) ys = after_line xs ys

pub after_line_plus : (xs ys : List ℕ) → drop (length xs + 1) (xs ++ 10 ∷ ys) ≡ ys
after_line_plus xs ys = rw add-one (after_line xs ys)
