-- What is asked of a text once it was read. Source: this project's own, docs/FORMATS.md.
use Rattle.std.specs.Prelude.{ℕ, ◌+◌, ◌&&◌, ◌||◌, Bool, nat_lt, List, [], ◌∷◌, ◌++◌, Option, None, Some, is_some, Result, Ok, Err, if◌then◌else◌}
use Rattle.std.specs.List.{list_any}
use Rattle.std.specs.Str.{bytes_eq}
use Rattle.net_aiger.specs.Reading.{Name, Reading, driven, even, net_of, port_name, stands}
use Rattle.net_aiger.specs.declared.fault.AigerFault.{AigerFault}
use Rattle.net_aiger.specs.declared.fault.AigerFault.TheVariants.{Undefined, NameTwice}
use Rattle.net_aiger.specs.declared.reading.Use.{Use}

-- the constants, and the literals of variables that are defined
abbrev pub is_known : List ℕ → ℕ → Bool
is_known defined literal = nat_lt literal 2 || stands defined (even literal)

-- the first line that uses a variable without a definition
abbrev pub known : List ℕ → List Use → Result (Unit {0}) AigerFault
known defined [] = Ok tt
known defined (one ∷ uses) = if is_known defined one.literal then known defined uses else Err (Undefined one.line)

abbrev pub own_net : Reading → ℕ → Option ℕ → Option ℕ
own_net reading port None = None
own_net reading port (Some net) = if nat_lt net (driven reading.header) && bytes_eq (port_name reading port) (port_name reading net) then Some net else None

-- the net of the input or latch whose literal and name an output has
abbrev pub own : Reading → ℕ → ℕ → Option ℕ
own reading port literal = if nat_lt port (driven reading.header) then None else own_net reading port (net_of reading literal)

-- The ports from a number on: the first whose name an earlier one has, where outputs that are an input or a latch are passed
-- over. The names of the earlier ones stand before. Port p stands on line p + 2.
abbrev pub apart : Reading → ℕ → List Name → List ℕ → Result (Unit {0}) AigerFault
apart reading port before [] = Ok tt
apart reading port before (literal ∷ ports) =
    if is_some (own reading port literal) then apart reading (port + 1) before ports
    else (if list_any (bytes_eq (port_name reading port)) before then Err (NameTwice (port + 2))
    else apart reading (port + 1) (before ++ port_name reading port ∷ []) ports)
