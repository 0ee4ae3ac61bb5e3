-- The prefix of the names of inner nets. Source: this project's own.
use Rattle.std.specs.Prelude.{ℕ, suc, List, [], ◌∷◌, ◌==◌, max, codes, if◌then◌else◌}
use Rattle.std.specs.List.{repeat}

-- how many bytes `w` a name begins with
abbrev pub leading : List ℕ → ℕ
leading [] = 0
leading (byte ∷ bytes) = if byte == 119 then suc (leading bytes) else 0

-- the most of them among these names
abbrev pub most_leading : List (List ℕ) → ℕ
most_leading [] = 0
most_leading (name ∷ names) = max (leading name) (most_leading names)

-- `w`, repeated as often as needed so that no name begins with it
abbrev pub prefix_of : List (List ℕ) → List ℕ
prefix_of names = repeat (suc (most_leading names)) (codes "w")
