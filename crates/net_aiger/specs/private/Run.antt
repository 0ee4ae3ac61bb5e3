-- What the reader knows after each line, or the first fault: for the clauses of private functions. Its states follow the sections.
-- Source: this project's own.
use Rattle.std.specs.Prelude.{◌≡◌, ◌⊎◌, ℕ, ◌+◌, ◌==◌, ◌&&◌, not, Bool, nat_lt, nat_le, nat_eq, List, [], ◌∷◌, ◌++◌, Option, None, Some, drop, take_while, length, codes, is_some, Result, Ok, Err, if◌then◌else◌}
use Rattle.std.specs.Map.{lookup}
use Rattle.std.specs.Option.{option_map}
use Rattle.std.specs.Str.{bytes_eq}
use Rattle.net_core.specs.declared.latch.Start.{Start}
use Rattle.net_core.specs.declared.latch.Start.TheVariants.{Zero, One, Unknown}
use Rattle.net_aiger.specs.Numbers.{is_space, number_of, numbers_of, words_of}
use Rattle.net_aiger.specs.Reading.{Name, Reading, driven, ports_of, stands}
use Rattle.net_aiger.specs.Sections.{fits, within}
use Rattle.net_aiger.specs.Spelling.{counts, is_header, is_port_name, left_out, port_at}
use Rattle.net_aiger.specs.Steps.{◌>>=◌}
use Rattle.net_aiger.specs.declared.fault.AigerFault.{AigerFault}
use Rattle.net_aiger.specs.declared.fault.AigerFault.TheVariants.{Syntax, Literal, DefinedTwice, OutOfMemory}
use Rattle.net_aiger.specs.declared.reading.Header.{Header}
use Rattle.net_aiger.specs.declared.reading.LatchLine.{LatchLine}

-- ---- a step

-- after a step the reader knows what the step says; its fault is that of the step, or memory ran out
abbrev pub Follows : Result (Unit {0}) AigerFault → Reading → Result Reading AigerFault → Type 0
Follows (Ok done) new said = said ≡ Ok new
Follows (Err fault) new said = (fault ≡ OutOfMemory) ⊎ (said ≡ Err fault)

-- ---- the header

abbrev pub start : Header → Reading
start header = record { header = header; ports = []; latches = []; ands = []; defined = []; uses = []; symbols = [] }

abbrev pub header_with : List ℕ → Option (List ℕ) → Result Header AigerFault
header_with word None = Err (Syntax 1)
header_with word (Some numbers) =
    if is_header word numbers then (left_out word numbers >>= (λ _. Ok (counts numbers))) else Err (Syntax 1)

abbrev pub header_from : List (List ℕ) → Result Header AigerFault
header_from [] = Err (Syntax 1)
header_from (word ∷ words) = header_with word (numbers_of words)

-- ---- inputs, latches, outputs and ANDs

-- with one more literal defined, on a line that uses two others
abbrev pub define : ℕ → ℕ → ℕ → ℕ → Reading → Result Reading AigerFault
define n literal left right reading =
    if not (fits reading.header literal left right) then Err (Literal n)
    else (if stands reading.defined literal then Err (DefinedTwice n)
    else Ok (record reading { defined = reading.defined ++ literal ∷ [] }))

abbrev pub input_line : ℕ → List ℕ → Reading → Result Reading AigerFault
input_line n (literal ∷ []) reading = define n literal 0 0 reading >>= (λ more. Ok (record more { ports = more.ports ++ literal ∷ [] }))
input_line n numbers reading = Err (Syntax n)

-- a start is 0, 1, or the latch's own literal for either
abbrev pub start_of : ℕ → ℕ → Option Start
start_of literal begin = if begin == 0 then Some Zero else (if begin == 1 then Some One else (if begin == literal then Some Unknown else None))

abbrev pub latch_with : ℕ → ℕ → Start → LatchLine
latch_with literal next begin = record { literal = literal; next = next; start = begin }

-- a latch that says no start begins with 0
abbrev pub latch_of : List ℕ → Option LatchLine
latch_of (literal ∷ next ∷ []) = Some (latch_with literal next Zero)
latch_of (literal ∷ next ∷ begin ∷ []) = option_map (latch_with literal next) (start_of literal begin)
latch_of numbers = None

abbrev pub with_latch : ℕ → Option LatchLine → Reading → Result Reading AigerFault
with_latch n None reading = Err (Syntax n)
with_latch n (Some latch) reading = define n latch.literal latch.next 0 reading >>= (λ more.
    Ok (record more { ports = more.ports ++ latch.literal ∷ []; latches = more.latches ++ latch ∷ []; uses = more.uses ++ record { line = n; literal = latch.next } ∷ [] }))

abbrev pub output_line : ℕ → List ℕ → Reading → Result Reading AigerFault
output_line n (literal ∷ []) reading =
    if within reading.header literal then Ok (record reading { ports = reading.ports ++ literal ∷ []; uses = reading.uses ++ record { line = n; literal = literal } ∷ [] })
    else Err (Literal n)
output_line n numbers reading = Err (Syntax n)

abbrev pub and_line : ℕ → List ℕ → Reading → Result Reading AigerFault
and_line n (literal ∷ left ∷ right ∷ []) reading = define n literal left right reading >>= (λ more.
    Ok (record more { ands = more.ands ++ record { literal = literal; left = left; right = right } ∷ []; uses = (more.uses ++ record { line = n; literal = left } ∷ []) ++ record { line = n; literal = right } ∷ [] }))
and_line n numbers reading = Err (Syntax n)

-- first the inputs, then the latches, the outputs and the ANDs
abbrev pub section_line : ℕ → List ℕ → Reading → Result Reading AigerFault
section_line n numbers reading =
    if nat_lt (length reading.ports) reading.header.inputs then input_line n numbers reading
    else (if nat_lt (length reading.ports) (driven reading.header) then with_latch n (latch_of numbers) reading
    else (if nat_lt (length reading.ports) (ports_of reading.header) then output_line n numbers reading
    else and_line n numbers reading))

abbrev pub number_line : ℕ → Option (List ℕ) → Reading → Result Reading AigerFault
number_line n None reading = Err (Syntax n)
number_line n (Some numbers) reading = section_line n numbers reading

-- ---- names

-- the port of a letter and a place
abbrev pub port_of : Header → ℕ → Option ℕ → Option ℕ
port_of header letter None = None
port_of header letter (Some place) = port_at header letter place

-- with a name for a port that has none
abbrev pub named : ℕ → Name → Option ℕ → Reading → Result Reading AigerFault
named n name None reading = Err (Syntax n)
named n name (Some port) reading =
    if is_port_name name && not (is_some (lookup (nat_eq port) reading.symbols)) then Ok (record reading { symbols = reading.symbols ++ (port, name) ∷ [] })
    else Err (Syntax n)

-- the bytes up to the first space
abbrev pub before_space : List ℕ → List ℕ
before_space bytes = take_while (λ b. not (is_space b)) bytes

-- `i`, `l` or `o`, a place, a space, and the name
abbrev pub symbol_line : ℕ → List ℕ → Reading → Result Reading AigerFault
symbol_line n [] reading = Err (Syntax n)
symbol_line n (letter ∷ bytes) reading =
    named n (drop (length (before_space bytes) + 1) bytes) (port_of reading.header letter (number_of (before_space bytes))) reading

-- ---- the text

-- all lines of numbers were read
abbrev pub is_complete : Reading → Bool
is_complete reading = nat_le (ports_of reading.header) (length reading.ports) && nat_le reading.header.ands (length reading.ands)

abbrev pub one_line : ℕ → List ℕ → Reading → Result Reading AigerFault
one_line n line reading = if is_complete reading then symbol_line n line reading else number_line n (numbers_of (words_of line)) reading

-- a line `c` behind the numbers
abbrev pub ends : List ℕ → Reading → Bool
ends line reading = is_complete reading && bytes_eq line (codes "c")

-- Line by line: the first with a fault decides, and a line `c` behind the numbers ends the text.
abbrev pub lines_read : ℕ → List (List ℕ) → Reading → Result Reading AigerFault
lines_read n [] reading = if is_complete reading then Ok reading else Err (Syntax n)
lines_read n (line ∷ lines) reading =
    if ends line reading then Ok reading else (one_line n line reading >>= (λ more. lines_read (n + 1) lines more))

abbrev pub text_read : List (List ℕ) → Result Reading AigerFault
text_read [] = Err (Syntax 1)
text_read (line ∷ lines) = header_from (words_of line) >>= (λ header. lines_read 2 lines (start header))
