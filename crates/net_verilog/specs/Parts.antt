-- Signs, identifiers and ranges. Source: IEEE Std 1364-2005, annex A, in the profile of docs/FORMATS.md.
use Rattle.std.specs.Prelude.{ℕ, ◌==◌, ◌||◌, nat_lt, Bool, true, false, List, [], ◌∷◌, length, Option, None, Some, Ok, Err, min, max, if◌then◌else◌}
use Rattle.outcome.specs.Steps.{on_value}
use Rattle.net_verilog.specs.Tokens.{TokenValue}
use Rattle.net_verilog.specs.Words.{wrong}
use Rattle.net_verilog.specs.Declarations.{Range}
use Rattle.net_verilog.specs.Targets.{Answer, decimal_kind, is_close_index, is_open_index, name_kind}
use Rattle.net_verilog.specs.declared.kind.Kind.{Kind}
use Rattle.net_verilog.specs.declared.kind.Kind.TheVariants as kinds
use Rattle.net_verilog.specs.declared.sign.Sign.{Sign}
use Rattle.net_verilog.specs.declared.sign.Sign.TheVariants as signs
use Rattle.net_verilog.specs.declared.fault.VerilogFault.TheVariants.{Syntax}

abbrev pub is_open : Kind → Bool
is_open kinds.Open = true
is_open kind = false

abbrev pub is_close : Kind → Bool
is_close kinds.Close = true
is_close kind = false

abbrev pub is_comma : Kind → Bool
is_comma kinds.Comma = true
is_comma kind = false

abbrev pub is_semicolon : Kind → Bool
is_semicolon kinds.Semicolon = true
is_semicolon kind = false

abbrev pub is_colon : Kind → Bool
is_colon kinds.Colon = true
is_colon kind = false

abbrev pub is_equals : Kind → Bool
is_equals kinds.Equals = true
is_equals kind = false

-- whether a token is this sign
abbrev pub is_sign : Sign → Kind → Bool
is_sign signs.Open kind = is_open kind
is_sign signs.Close kind = is_close kind
is_sign signs.CloseIndex kind = is_close_index kind
is_sign signs.Comma kind = is_comma kind
is_sign signs.Semicolon kind = is_semicolon kind
is_sign signs.Colon kind = is_colon kind
is_sign signs.Equals kind = is_equals kind

-- this sign: its line; or the fault of the token in its place
abbrev pub taken : Sign → List TokenValue → Answer ℕ
taken sign [] = Err (Syntax 0)
taken sign (t ∷ ts) = if is_sign sign t.kind then Ok (t.line, ts) else Err (wrong t)

-- an identifier of 1 to 255 bytes
abbrev pub identified : TokenValue → Option (List ℕ) → List TokenValue → Answer (ℕ × List ℕ)
identified t None ts = Err (wrong t)
identified t (Some name) ts = if nat_lt 255 (length name) || (length name == 0) then Err (Syntax t.line) else Ok ((t.line, name), ts)

-- an identifier and its line
abbrev pub identifier : List TokenValue → Answer (ℕ × List ℕ)
identifier [] = Err (Syntax 0)
identifier (t ∷ ts) = identified t (name_kind t.kind t.text) ts

abbrev pub bounded : TokenValue → Option ℕ → List TokenValue → Answer ℕ
bounded t None ts = Err (wrong t)
bounded t (Some n) ts = if nat_lt 65535 n then Err (Syntax t.line) else Ok (n, ts)

-- a bound of a range: a decimal number up to 65,535
abbrev pub bound : List TokenValue → Answer ℕ
bound [] = Err (Syntax 0)
bound (t ∷ ts) = bounded t (decimal_kind t.kind t.text) ts

-- `a : b ]` after `[`, in either order
abbrev pub bounds : List TokenValue → Answer Range
bounds tokens =
    on_value (λ (a : ℕ × List TokenValue).
    on_value (λ (colon : ℕ × List TokenValue).
    on_value (λ (b : ℕ × List TokenValue).
    on_value (λ (end : ℕ × List TokenValue). Ok (Some (min a.0 b.0, max a.0 b.0), end.1))
    (taken signs.CloseIndex b.1)) (bound colon.1)) (taken signs.Colon a.1)) (bound tokens)

-- a range, or nothing
abbrev pub range : List TokenValue → Answer Range
range [] = Ok (None, [])
range (t ∷ ts) = if is_open_index t.kind then bounds ts else Ok (None, t ∷ ts)
