-- Targets: a declared scalar, or a declared vector with an index. Source: IEEE Std 1364-2005, in the profile of docs/FORMATS.md.
use Rattle.std.specs.Prelude.{◌≡◌, ℕ, ◌≤◌, ◌&&◌, ◌||◌, ◌==◌, nat_le, nat_lt, Bool, true, false, List, [], ◌∷◌, drop, length, Option, None, Some, Result, Ok, Err, if◌then◌else◌}
use Rattle.text_core.specs.Numbers.{value_of}
use Rattle.net_verilog.specs.Tokens.{TokenValue}
use Rattle.net_verilog.specs.Words.{is_decimal, is_keyword, wrong}
use Rattle.net_verilog.specs.Declarations.{Declarations, Range, range_of, bit_name}
use Rattle.net_verilog.specs.declared.kind.Kind.{Kind}
use Rattle.net_verilog.specs.declared.kind.Kind.TheVariants as kinds
use Rattle.net_verilog.specs.declared.fault.VerilogFault.{VerilogFault}
use Rattle.net_verilog.specs.declared.fault.VerilogFault.TheVariants.{Syntax, Undeclared, OutOfRange}

-- what is read, and the tokens after it
abbrev pub Answer : Type 0 → Type 0
Answer A = Result (A × List TokenValue) VerilogFault

-- the name of an identifier; a keyword is none, unless it is escaped
abbrev pub name_kind : Kind → List ℕ → Option (List ℕ)
name_kind kinds.Word text = if is_keyword text then None else Some text
name_kind kinds.Escaped text = Some (drop 1 text)
name_kind kind text = None

-- a decimal number
abbrev pub decimal_kind : Kind → List ℕ → Option ℕ
decimal_kind kinds.Number text = if is_decimal text then Some (value_of 10 text) else None
decimal_kind kind text = None

abbrev pub is_open_index : Kind → Bool
is_open_index kinds.OpenIndex = true
is_open_index kind = false

abbrev pub is_close_index : Kind → Bool
is_close_index kinds.CloseIndex = true
is_close_index kind = false

-- `]` ends a target
abbrev pub closed : List ℕ → List TokenValue → Answer (List ℕ)
closed net [] = Err (Syntax 0)
closed net (t ∷ ts) = if is_close_index t.kind then Ok (net, ts) else Err (wrong t)

-- an index inside the range
abbrev pub within : List ℕ → ℕ → ℕ → TokenValue → Option ℕ → List TokenValue → Answer (List ℕ)
within name low high t None ts = Err (wrong t)
within name low high t (Some i) ts = if nat_le low i && nat_le i high then closed (bit_name name i) ts else Err (OutOfRange t.line)

abbrev pub indexed : List ℕ → ℕ → ℕ → List TokenValue → Answer (List ℕ)
indexed name low high [] = Err (Syntax 0)
indexed name low high (t ∷ ts) = within name low high t (decimal_kind t.kind t.text) ts

-- What follows the name of a target: a vector without an index is a fault at the name, a scalar with one at its `[`,
-- and an index outside the range at the number.
abbrev pub after_name : ℕ → List ℕ → Option Range → List TokenValue → Answer (List ℕ)
after_name line name None ts = Err (Undeclared line)
after_name line name (Some None) [] = Ok (name, [])
after_name line name (Some None) (t ∷ ts) = if is_open_index t.kind then Err (OutOfRange t.line) else Ok (name, t ∷ ts)
after_name line name (Some (Some (low, high))) [] = Err (OutOfRange line)
after_name line name (Some (Some (low, high))) (t ∷ ts) = if is_open_index t.kind then indexed name low high ts else Err (OutOfRange line)

-- an identifier has 1 to 255 bytes
abbrev pub named : Declarations → TokenValue → Option (List ℕ) → List TokenValue → Answer (List ℕ)
named declared t None ts = Err (wrong t)
named declared t (Some name) ts = if nat_lt 255 (length name) || (length name == 0) then Err (Syntax t.line) else after_name t.line name (range_of declared name) ts

-- the net that a target names, or the first fault of a target that is wanted here
abbrev pub target_of : Declarations → List TokenValue → Answer (List ℕ)
target_of declared [] = Err (Syntax 0)
target_of declared (t ∷ ts) = named declared t (name_kind t.kind t.text) ts

-- each declared vector is such that the names of its nets have at most 255 bytes
abbrev pub HasNetNames : Declarations → Type 0
HasNetNames declared = (name : List ℕ) → (low : ℕ) → (high : ℕ) → (i : ℕ) → range_of declared name ≡ Some (Some (low, high)) → low ≤ i → i ≤ high → length (bit_name name i) ≤ 255
