-- Declarations of names, and the ports that they make. Source: IEEE Std 1364-2005, section 4.2 and annex A.2, in the profile of docs/FORMATS.md.
use Rattle.std.specs.Prelude.{◌≡◌, ◌⊎◌, ℕ, zero, suc, ◌+◌, ◌-◌, ◌==◌, ◌≤◌, ◌||◌, ◌&&◌, not, Bool, true, false, List, [], ◌∷◌, ◌++◌, length, Option, None, Some, Result, Ok, Err}
use Rattle.outcome.specs.Outcome.{Outcome, ◌>>=◌, Exactly, Returns}
use Rattle.outcome.specs.Steps.{on_value}
use Rattle.net_core.specs.NetList.{NetList}
use Rattle.net_core.specs.declared.fault.NetFault.{NetFault}
use Rattle.net_verilog.specs.Tokens.{TokenValue}
use Rattle.net_verilog.specs.Declarations.{Declarations, Range, IsNetOf, bit_name, declared_as, is_directed, range_of, with_declared}
use Rattle.net_verilog.specs.Made.{mentioned}
use Rattle.net_verilog.specs.Parts.{identifier}
use Rattle.net_verilog.specs.Assigns.{Reads, net_fault}
use Rattle.net_verilog.specs.declared.declared.Declared.{Declared}
use Rattle.net_verilog.specs.declared.declared.Direction.{Direction}
use Rattle.net_verilog.specs.declared.declared.Direction.TheVariants.{Input, Output, Wire}
use Rattle.net_verilog.specs.declared.fault.VerilogFault.{VerilogFault}
use Rattle.net_verilog.specs.declared.fault.VerilogFault.TheVariants.{Syntax, Redeclared}

-- each net of a name has a name of at most 255 bytes
abbrev pub HasShortNames : List ℕ → Range → Type 0
HasShortNames name range = (net : List ℕ) → IsNetOf name range net → length net ≤ 255

-- both are the same range; a scalar has none
abbrev pub is_same_range : Range → Range → Bool
is_same_range None None = true
is_same_range (Some (a, b)) (Some (c, d)) = (a == c) && (b == d)
is_same_range one other = false

-- an earlier declaration of a name against another: it has another range, or both give a direction
abbrev pub is_against : Option Declared → Range → Direction → Bool
is_against None range direction = false
is_against (Some d) range direction = not (is_same_range d.range range) || (d.directed && is_directed direction)

-- another declared name makes a net of the same name
abbrev pub Meets : Declarations → Range → List ℕ → Type 0
Meets declared range name = (other : List ℕ) × (there : Range) × (net : List ℕ) × (range_of declared other ≡ Some there) × ¬ (other ≡ name) × IsNetOf other there net × IsNetOf name range net

-- the name is declared otherwise, or another one makes a net of the same name
abbrev pub IsRedeclared : Declarations → Range → Direction → List ℕ → Type 0
IsRedeclared declared range direction name = (is_against (declared_as declared name) range direction ≡ true) ⊎ Meets declared range name

-- a declaration of a name at a line
abbrev pub Declares : Declarations → Range → Direction → (ℕ × List ℕ) → Outcome VerilogFault Declarations
Declares declared range direction name (Ok more) = HasShortNames name.1 range × ¬ IsRedeclared declared range direction name.1 × (more ≡ with_declared name.1 range direction declared)
Declares declared range direction name (Err fault) =
    (¬ HasShortNames name.1 range × (fault ≡ Syntax name.0))
    ⊎ (HasShortNames name.1 range × IsRedeclared declared range direction name.1 × (fault ≡ Redeclared name.0))

-- the names of so many bits from an index on
abbrev pub bits_from : List ℕ → ℕ → ℕ → List (List ℕ)
bits_from name i zero = []
bits_from name i (suc more) = bit_name name i ∷ bits_from name (1 + i) more

-- the nets of a name, from the lowest index to the highest
abbrev pub net_names : List ℕ → Range → List (List ℕ)
net_names name None = name ∷ []
net_names name (Some (low, high)) = bits_from name low (1 + high - low)

-- with a net that is a primary input or an output, after those before
abbrev pub with_port : Direction → NetList → ℕ → NetList
with_port Input net n = record net { inputs = net.inputs ++ n ∷ [] }
with_port Output net n = record net { outputs = net.outputs ++ n ∷ [] }
with_port Wire net n = net

-- with the net of a name as a primary input or an output
abbrev pub with_port_named : Direction → NetList → List ℕ → Result NetList NetFault
with_port_named direction net name = on_value (λ p. Ok (with_port direction p.0 p.1)) (mentioned net name)

-- with the nets of these names as primary inputs or outputs
abbrev pub with_ports : Direction → NetList → List (List ℕ) → Result NetList NetFault
with_ports direction net [] = Ok net
with_ports direction net (name ∷ names) = on_value (λ more. with_ports direction more names) (with_port_named direction net name)

-- the ports of a declared name; a wire alone makes no net
abbrev pub ported : Direction → NetList → List ℕ → Range → Result NetList NetFault
ported Wire net name range = Ok net
ported direction net name range = with_ports direction net (net_names name range)

-- a name of a declaration
abbrev pub ReadsName : Range → Direction → (Declarations × NetList) → List TokenValue → Reads (Declarations × NetList)
ReadsName range direction state tokens = do
  name ← Returns (identifier tokens)
  declared ← Declares state.0 range direction name.0
  net ← Returns (net_fault (ported direction state.1 name.0.1 range))
  Exactly ((declared, net), name.1)
