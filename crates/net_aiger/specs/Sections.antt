-- The sections of a text in ASCII AIGER: a header, then the lines of inputs, latches, outputs and ANDs, as many as the header says,
-- then symbols, and a comment or the end.
-- Source: Armin Biere, The AIGER And-Inverter Graph (AIG) Format, Johannes Kepler University, Linz, 2007.
use Rattle.std.specs.Prelude.{◌≡◌, ◌⊎◌, ◌<◌, ℕ, ◌+◌, ◌*◌, ◌%◌, ◌==◌, ◌&&◌, not, Bool, nat_le, nat_eq, List, [], ◌∷◌, ◌++◌, map, take, Option, None, Some, length, slice_get, codes, option_and_then, Result, Ok, Err, if◌then◌else◌}
use Rattle.std.specs.Map.{lookup}
use Rattle.outcome.specs.Outcome.{Outcome, ◌>>=◌, Exactly, Returns}
use Rattle.net_aiger.specs.Numbers.{numbers_of, words_of}
use Rattle.net_aiger.specs.Reading.{Name, Reading, driven, literals_of, ports_of, reading_of, stands}
use Rattle.net_aiger.specs.Spelling.{SpellsHeader, SpellsLatch, SpellsSymbol, counts, left_out}
use Rattle.net_aiger.specs.declared.fault.AigerFault.{AigerFault}
use Rattle.net_aiger.specs.declared.fault.AigerFault.TheVariants.{Syntax, Literal, DefinedTwice}
use Rattle.net_aiger.specs.declared.reading.AndLine.{AndLine}
use Rattle.net_aiger.specs.declared.reading.Header.{Header}
use Rattle.net_aiger.specs.declared.reading.LatchLine.{LatchLine}

-- what is spelled, or a syntax fault of the line where nothing is
abbrev pub Spelled : {A : Type 0} → ℕ → (A → Type 0) → Outcome AigerFault A
Spelled {A} line spells (Ok a) = spells a
Spelled {A} line spells (Err fault) = ((a : A) → ¬ spells a) × (fault ≡ Syntax line)

-- the first line's header, if it counts what is read
abbrev pub Heading : List ℕ → Outcome AigerFault Header
Heading line = do
  head ← Spelled 1 (SpellsHeader line)
  _ ← Returns (left_out head.0 head.1)
  Exactly (counts head.1)

-- ---- one line. Lines are told by their places behind the header: place p is line p + 2 of the text.

-- the numbers of the line at a place, if there is one and each of its words is a number
abbrev pub numbers_at : List (List ℕ) → ℕ → Option (List ℕ)
numbers_at body place = option_and_then (λ line. numbers_of (words_of line)) (slice_get body place)

-- a literal of the variables of the header
abbrev pub within : Header → ℕ → Bool
within header literal = nat_le literal (2 * header.most + 1)

-- a literal that can be defined, and two that are used, are of the header's variables; the first is even and not 0
abbrev pub fits : Header → ℕ → ℕ → ℕ → Bool
fits header literal left right =
    (nat_le 2 literal && (literal % 2 == 0)) && (within header literal && (within header left && within header right))

-- a line defines a literal, where others are defined, and uses two more
abbrev pub defining : Header → List ℕ → ℕ → ℕ → ℕ → ℕ → Result (Unit {0}) AigerFault
defining header defined line literal left right =
    if not (fits header literal left right) then Err (Literal line)
    else (if stands defined literal then Err (DefinedTwice line)
    else Ok tt)

abbrev pub using : Header → ℕ → ℕ → Result (Unit {0}) AigerFault
using header line literal = if within header literal then Ok tt else Err (Literal line)

-- an input, after those before it
abbrev pub Input : Header → List (List ℕ) → List ℕ → ℕ → Outcome AigerFault ℕ
Input header body inputs place = do
  literal ← Spelled (place + 2) (λ literal. numbers_at body place ≡ Some (literal ∷ []))
  _ ← Returns (defining header inputs (place + 2) literal 0 0)
  Exactly literal

-- a latch, after the inputs and the latches before it
abbrev pub Latch : Header → List (List ℕ) → List ℕ → List LatchLine → ℕ → Outcome AigerFault LatchLine
Latch header body inputs latches place = do
  latch ← Spelled (place + 2) (λ latch. (numbers : List ℕ) × (numbers_at body place ≡ Some numbers) × SpellsLatch numbers latch)
  _ ← Returns (defining header (inputs ++ literals_of latches) (place + 2) latch.literal latch.next 0)
  Exactly latch

-- an output
abbrev pub Output : Header → List (List ℕ) → List ℕ → ℕ → Outcome AigerFault ℕ
Output header body outputs place = do
  literal ← Spelled (place + 2) (λ literal. numbers_at body place ≡ Some (literal ∷ []))
  _ ← Returns (using header (place + 2) literal)
  Exactly literal

-- an AND, after the literals of inputs and latches and the ANDs before it
abbrev pub And : Header → List (List ℕ) → List ℕ → List AndLine → ℕ → Outcome AigerFault AndLine
And header body defined ands place = do
  line ← Spelled (place + 2) (λ line. numbers_at body place ≡ Some (line.literal ∷ line.left ∷ line.right ∷ []))
  _ ← Returns (defining header (defined ++ map (λ (a : AndLine). a.literal) ands) (place + 2) line.literal line.left line.right)
  Exactly line

-- a symbol of a port to which none before it gives a name
abbrev pub Symbol : Header → List (List ℕ) → List (ℕ × Name) → ℕ → Outcome AigerFault (ℕ × Name)
Symbol header body symbols place =
    Spelled (place + 2) (λ symbol. (line : List ℕ) × (slice_get body place ≡ Some line) × SpellsSymbol header line symbol × (lookup (nat_eq symbol.0) symbols ≡ None))

-- ---- lines, one after another

-- the lines from a place on say these entries, each after those before it
abbrev pub AreEntries : {A : Type 0} → (List A → ℕ → Outcome AigerFault A) → ℕ → List A → Type 0
AreEntries {A} Line first entries = (k : ℕ) (a : A) → slice_get entries k ≡ Some a → Line (take k entries) (first + k) (Ok a)

-- so many lines from a place on: their entries, or the fault of the first that has one
abbrev pub Section : {A : Type 0} → (List A → ℕ → Outcome AigerFault A) → ℕ → ℕ → Outcome AigerFault (List A)
Section {A} Line first count (Ok entries) = (length entries ≡ count) × AreEntries Line first entries
Section {A} Line first count (Err fault) = (before : List A) × (length before < count) × AreEntries Line first before × Line before (first + length before) (Err fault)

-- no line, or a line `c`, behind which anything may stand
abbrev pub Ends : List (List ℕ) → ℕ → Type 0
Ends body place = (slice_get body place ≡ None) ⊎ (slice_get body place ≡ Some (codes "c"))

-- the symbols from a place on up to the end, or the fault of the first line that is none
abbrev pub Symbols : Header → List (List ℕ) → ℕ → Outcome AigerFault (List (ℕ × Name))
Symbols header body first (Ok symbols) = AreEntries (Symbol header body) first symbols × Ends body (first + length symbols)
Symbols header body first (Err fault) =
    (before : List (ℕ × Name)) × ¬ Ends body (first + length before) × AreEntries (Symbol header body) first before × Symbol header body before (first + length before) (Err fault)

-- ---- the whole

-- A text by its sections; the first line with a fault decides.
abbrev pub Text : List (List ℕ) → Outcome AigerFault Reading
Text [] = Returns (Err (Syntax 1))
Text (line ∷ body) = do
  header ← Heading line
  inputs ← Section (Input header body) 0 header.inputs
  latches ← Section (Latch header body inputs) header.inputs header.latches
  outputs ← Section (Output header body) (driven header) header.outputs
  ands ← Section (And header body (inputs ++ literals_of latches)) (ports_of header) header.ands
  symbols ← Symbols header body (ports_of header + header.ands)
  Exactly (reading_of header inputs latches outputs ands symbols)
