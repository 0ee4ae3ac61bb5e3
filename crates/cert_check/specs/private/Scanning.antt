-- What the code scans, as lists of bytes. Source: this project's own.
use Rattle.std.specs.Prelude.{ℕ, Option, None, Some, List}
use denote.Ref.{Bor}

-- what is left, as a list of bytes
abbrev pub left_of : Option (Bor (List ℕ)) → Option (List ℕ)
left_of None = None
left_of (Some rest) = Some rest.now

-- digits and what is left
abbrev pub two_of : Option (Bor (List ℕ) × Bor (List ℕ)) → Option (List ℕ × List ℕ)
two_of None = None
two_of (Some found) = Some (found.0.now, found.1.now)

-- a name, digits and what is left
abbrev pub three_of : Option (Bor (List ℕ) × Bor (List ℕ) × Bor (List ℕ)) → Option (List ℕ × List ℕ × List ℕ)
three_of None = None
three_of (Some found) = Some (found.0.now, found.1.now, found.2.now)
