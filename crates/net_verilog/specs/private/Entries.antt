-- The entries of a map of texts: words of this crate's code. Source: this project's own.
use Rattle.std.specs.Prelude.{List, map, string_bytes}
use Rattle.std.specs.declared.string.String.{String}
use Rattle.net_verilog.specs.Declarations.{Declarations}
use Rattle.net_verilog.specs.declared.declared.Declared.{Declared}

-- each name by its bytes
abbrev pub named_entries : {Y : Type 0} → List (String Y × Declared) → Declarations
named_entries es = map (λ e. (string_bytes e.0, e.1)) es
