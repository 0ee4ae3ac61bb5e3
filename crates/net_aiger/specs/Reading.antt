-- What was read of a text in ASCII AIGER.
-- Source: Armin Biere, The AIGER And-Inverter Graph (AIG) Format, Johannes Kepler University, Linz, 2007.
use Rattle.std.specs.Prelude.{ℕ, ◌+◌, ◌-◌, ◌%◌, Bool, nat_lt, nat_eq, List, [], ◌∷◌, ◌++◌, map, Option, position, codes, unwrap_or, if◌then◌else◌}
use Rattle.std.specs.List.{list_any}
use Rattle.std.specs.Map.{lookup}
use Rattle.std.specs.Fmt.{decimal}
use Rattle.net_aiger.specs.declared.reading.Header.{Header}
use Rattle.net_aiger.specs.declared.reading.LatchLine.{LatchLine}
use Rattle.net_aiger.specs.declared.reading.AndLine.{AndLine}
use Rattle.net_aiger.specs.declared.reading.Use.{Use}

abbrev pub Name : Type 0
Name = List ℕ

-- The header, the lines read so far, and the names given so far. A port is an input, a latch or an output; the ports are
-- numbered in this order, from 0, as their lines stand.
pub record Reading : Type 0 where
  pub header : Header
  -- the literals of the ports
  pub ports : List ℕ
  pub latches : List LatchLine
  pub ands : List AndLine
  -- the literals of inputs, latches and ANDs, as they are defined
  pub defined : List ℕ
  -- the literals that lines use, line by line
  pub uses : List Use
  -- names by the number of their port
  pub symbols : List (ℕ × Name)

-- how many inputs and latches there are
abbrev pub driven : Header → ℕ
driven header = header.inputs + header.latches

-- how many inputs, latches and outputs there are
abbrev pub ports_of : Header → ℕ
ports_of header = driven header + header.outputs

-- the literals of latches
abbrev pub literals_of : List LatchLine → List ℕ
literals_of latches = map (λ (l : LatchLine). l.literal) latches

-- the literals that entries use, whose lines are numbered from n
abbrev pub uses_from : {A : Type 0} → (A → List ℕ) → ℕ → List A → List Use
uses_from used n [] = []
uses_from used n (entry ∷ entries) = map (λ (literal : ℕ). record { line = n; literal = literal }) (used entry) ++ uses_from used (n + 1) entries

-- what a latch, an output and an AND use
abbrev pub used_by_latch : LatchLine → List ℕ
used_by_latch latch = latch.next ∷ []

abbrev pub used_by_output : ℕ → List ℕ
used_by_output literal = literal ∷ []

abbrev pub used_by_and : AndLine → List ℕ
used_by_and line = line.left ∷ line.right ∷ []

-- what the sections say together: the port of number p stands on line p + 2, and the ANDs on the lines behind the ports
abbrev pub reading_of : Header → List ℕ → List LatchLine → List ℕ → List AndLine → List (ℕ × Name) → Reading
reading_of header inputs latches outputs ands symbols = record {
  header = header;
  ports = (inputs ++ literals_of latches) ++ outputs;
  latches = latches;
  ands = ands;
  defined = (inputs ++ literals_of latches) ++ map (λ (a : AndLine). a.literal) ands;
  uses = (uses_from used_by_latch (header.inputs + 2) latches ++ uses_from used_by_output (driven header + 2) outputs) ++ uses_from used_by_and (ports_of header + 2) ands;
  symbols = symbols;
}

-- the literal of a literal's variable
abbrev pub even : ℕ → ℕ
even literal = literal - literal % 2

-- whether the literal is among the defined ones
abbrev pub stands : List ℕ → ℕ → Bool
stands defined literal = list_any (nat_eq literal) defined

-- the number of the net of a defined literal: nets are numbered as the literals are defined
abbrev pub net_of : Reading → ℕ → Option ℕ
net_of reading literal = position (nat_eq literal) reading.defined

-- the number of the net of a literal's variable
abbrev pub variable_net : Reading → ℕ → ℕ
variable_net reading literal = unwrap_or (net_of reading (even literal)) 0

-- the name of a port that is given none
abbrev pub default_name : Header → ℕ → Name
default_name header port =
    if nat_lt port header.inputs then codes "i" ++ decimal port
    else (if nat_lt port (driven header) then codes "l" ++ decimal (port - header.inputs)
    else codes "o" ++ decimal (port - driven header))

abbrev pub port_name : Reading → ℕ → Name
port_name reading port = unwrap_or (lookup (nat_eq port) reading.symbols) (default_name reading.header port)
