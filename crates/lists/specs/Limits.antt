-- Limits that several crates keep. Source: this project's own.
use Rattle.std.specs.Prelude.{ℕ, ◌^◌}

-- the most nets of a net list, the most gates with latches, and the most instances of a design
abbrev pub most_nets : ℕ
most_nets = 2 ^ 20

-- the most bytes of a file
abbrev pub most_bytes : ℕ
most_bytes = 67108864
