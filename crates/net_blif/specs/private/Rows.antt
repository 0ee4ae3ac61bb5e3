-- The bits of rows, a cell at a time. Source: this project's own.
use Rattle.std.specs.Prelude.{ℕ, Bool, true, false}

-- these bits, or none
abbrev pub unless : Bool → ℕ → ℕ
unless true bits = 0
unless false bits = bits
