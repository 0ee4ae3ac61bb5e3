-- What one line of a text in ASCII AIGER spells.
-- Source: Armin Biere, The AIGER And-Inverter Graph (AIG) Format, Johannes Kepler University, Linz, 2007.
use Rattle.std.specs.Prelude.{◌≡◌, ◌⊎◌, ◌≤◌, ℕ, ◌+◌, ◌==◌, ◌&&◌, ◌||◌, true, Bool, nat_lt, nat_le, List, [], ◌∷◌, ◌++◌, Option, None, Some, drop, length, slice_index, codes, Result, Ok, Err, if◌then◌else◌}
use Rattle.std.specs.List.{list_all}
use Rattle.std.specs.Str.{bytes_eq}
use Rattle.std.specs.Fmt.{decimal}
use Rattle.net_core.specs.declared.latch.Start.{Start}
use Rattle.net_core.specs.declared.latch.Start.TheVariants.{Zero, One, Unknown}
use Rattle.net_aiger.specs.Numbers.{number_of, numbers_of, words_of}
use Rattle.net_aiger.specs.Reading.{Name, driven}
use Rattle.net_aiger.specs.declared.fault.AigerFault.{AigerFault}
use Rattle.net_aiger.specs.declared.fault.AigerFault.TheVariants.{LeftOut}
use Rattle.net_aiger.specs.declared.reading.Header.{Header}
use Rattle.net_aiger.specs.declared.reading.LatchLine.{LatchLine}

-- ---- the header

-- `aag` or `aig`, and 5 to 9 numbers
abbrev pub is_header : List ℕ → List ℕ → Bool
is_header word numbers = (bytes_eq word (codes "aag") || bytes_eq word (codes "aig")) && (nat_le 5 (length numbers) && nat_le (length numbers) 9)

-- the word and the numbers of a header
abbrev pub SpellsHeader : List ℕ → (List ℕ × List ℕ) → Type 0
SpellsHeader line head = (words : List (List ℕ)) × (words_of line ≡ head.0 ∷ words) × (numbers_of words ≡ Some head.1) × (is_header head.0 head.1 ≡ true)

-- the greatest variable, and how many inputs, latches, outputs and ANDs there are
abbrev pub counts : List ℕ → Header
counts numbers = record { most = slice_index numbers 0; inputs = slice_index numbers 1; latches = slice_index numbers 2; outputs = slice_index numbers 3; ands = slice_index numbers 4 }

-- the first number that is not 0
abbrev pub first_other : List ℕ → Option ℕ
first_other [] = None
first_other (n ∷ ns) = if n == 0 then first_other ns else Some n

abbrev pub left_number : Option ℕ → Result (Unit {0}) AigerFault
left_number None = Ok tt
left_number (Some n) = Err (LeftOut 1 (decimal n))

-- The binary format is left out, and so is what a number behind the fifth counts, if it is not 0.
abbrev pub left_out : List ℕ → List ℕ → Result (Unit {0}) AigerFault
left_out word numbers = if bytes_eq word (codes "aig") then Err (LeftOut 1 (codes "aig")) else left_number (first_other (drop 5 numbers))

-- ---- latches

-- a start is 0, 1, or the latch's own literal for either
abbrev pub IsStart : ℕ → ℕ → Start → Type 0
IsStart literal begin Zero = begin ≡ 0
IsStart literal begin One = begin ≡ 1
IsStart literal begin Unknown = (2 ≤ begin) × (begin ≡ literal)

-- `lit next start`, or `lit next` for a latch that begins with 0
abbrev pub SpellsLatch : List ℕ → LatchLine → Type 0
SpellsLatch numbers latch =
    ((numbers ≡ latch.literal ∷ latch.next ∷ []) × (latch.start ≡ Zero))
    ⊎ ((begin : ℕ) × (numbers ≡ latch.literal ∷ latch.next ∷ begin ∷ []) × IsStart latch.literal begin latch.start)

-- ---- names

-- a byte from the space to `~`
abbrev pub is_shown : ℕ → Bool
is_shown b = nat_le 32 b && nat_le b 126

-- 1 to 255 such bytes
abbrev pub is_port_name : Name → Bool
is_port_name name = (nat_le 1 (length name) && nat_le (length name) 255) && list_all is_shown name

-- the number of an input, a latch or an output by its place: the letter is `i`, `l` or `o`
abbrev pub port_at : Header → ℕ → ℕ → Option ℕ
port_at header letter place =
    if (letter == 105) && nat_lt place header.inputs then Some place
    else (if (letter == 108) && nat_lt place header.latches then Some (header.inputs + place)
    else (if (letter == 111) && nat_lt place header.outputs then Some (driven header + place)
    else None))

-- the letter and the place of a port, one space, and its name
abbrev pub SpellsSymbol : Header → List ℕ → (ℕ × Name) → Type 0
SpellsSymbol header line symbol =
    (letter place : ℕ) × (digits : List ℕ) × (line ≡ letter ∷ (digits ++ 32 ∷ symbol.1)) × (number_of digits ≡ Some place)
    × (port_at header letter place ≡ Some symbol.0) × (is_port_name symbol.1 ≡ true)
