-- Numbers of names, of which each keeps its first. Source: this project's own.
use Rattle.std.specs.Prelude.{◌≡◌, ℕ, List, Some, is_some, if◌then◌else◌}
use Rattle.std.specs.Str.{bytes_eq}
use Rattle.net_blif.specs.Table.{Numbers}

-- with this number for the name, unless it has one
abbrev pub HasNumber : Numbers → List ℕ → ℕ → Numbers → Type 0
HasNumber before name number after = (q : List ℕ) → after q ≡ (if is_some (before name) then before q else (if bytes_eq name q then Some number else before q))
