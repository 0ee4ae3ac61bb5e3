-- The port behind those whose nets were made.
use Rattle.std.specs.Prelude.{ℕ, if◌then◌else◌, nat_lt}
use Rattle.net_aiger.specs.Reading.{Reading, driven}

-- the port behind those whose nets were made, where n nets were
abbrev pub next_port : Reading → ℕ → ℕ
next_port reading n = if nat_lt n (driven reading.header) then n else driven reading.header
