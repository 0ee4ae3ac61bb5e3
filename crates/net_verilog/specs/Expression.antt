-- What comes of an expression: its tree and its nets, or its first fault. Source: IEEE Std 1364-2005, in the profile of docs/FORMATS.md.
use Rattle.std.specs.Prelude.{◌≡◌, ◌⊎◌, ℕ, ◌+◌, ◌≤◌, nat_le, Bool, true, false, List, [], ◌∷◌, Option, None, Some, Ok, Err, if◌then◌else◌}
use Rattle.outcome.specs.Outcome.{Outcome}
use Rattle.net_core.specs.NetList.{NetList}
use Rattle.net_core.specs.declared.fault.NetFault.{NetFault}
use Rattle.net_verilog.specs.Tokens.{TokenValue}
use Rattle.net_verilog.specs.Words.{start_of, next_of, wrong}
use Rattle.net_verilog.specs.Targets.{Answer, target_of}
use Rattle.net_verilog.specs.Tree.{Tree, IsWell, level, looseness, nesting, Spells, Cut, InGroup, AreWell, allowed, depth, Begins}
use Rattle.net_verilog.specs.Made.{made, opened}
use Rattle.net_verilog.specs.Declarations.{Declarations}
use Rattle.net_verilog.specs.declared.operator.Driver.{Driver}
use Rattle.net_verilog.specs.declared.operator.Frame.{Frame}
use Rattle.net_verilog.specs.declared.operator.Start.{Start}
use Rattle.net_verilog.specs.declared.operator.Start.TheVariants as starts
use Rattle.net_verilog.specs.declared.operator.Next.{Next}
use Rattle.net_verilog.specs.declared.operator.Next.TheVariants as nexts
use Rattle.net_verilog.specs.declared.fault.VerilogFault.{VerilogFault}
use Rattle.net_verilog.specs.declared.fault.VerilogFault.TheVariants as faults

-- what was read of an expression: the net list, what drives the expression's net, and the tokens after it
pub record Read : Type 0 where
  pub net : NetList
  pub driver : Driver
  pub rest : List TokenValue

abbrev pub goes_on : Next → Bool
goes_on (nexts.Operator operator) = true
goes_on next = false

-- the first token is a binary operator
abbrev pub continues : List TokenValue → Bool
continues [] = false
continues (t ∷ ts) = goes_on (next_of t)

-- how loosely an expression may bind that ends before a token: before an operator no more loosely than it
abbrev pub binding : Next → ℕ
binding (nexts.Operator operator) = looseness operator
binding next = 3

abbrev pub binding_at : List TokenValue → ℕ
binding_at [] = 3
binding_at (t ∷ ts) = binding (next_of t)

abbrev pub target_fault : Answer (List ℕ) → Option VerilogFault
target_fault (Ok r) = None
target_fault (Err e) = Some e

-- one more `(` or `~`, where so many are open
abbrev pub open_fault : ℕ → TokenValue → Option VerilogFault
open_fault count t = if nat_le 1024 count then Some (faults.LeftOut t.line t.text) else None

-- the fault at a place where an operand is wanted
abbrev pub start_fault : Declarations → ℕ → Start → TokenValue → List TokenValue → Option VerilogFault
start_fault declared count starts.Group t ts = open_fault count t
start_fault declared count starts.Not t ts = open_fault count t
start_fault declared count (starts.Bit bit) t ts = None
start_fault declared count starts.Target t ts = target_fault (target_of declared (t ∷ ts))
start_fault declared count starts.Other t ts = Some (wrong t)

abbrev pub operand_fault : Declarations → ℕ → List TokenValue → Option VerilogFault
operand_fault declared count [] = Some (faults.Syntax 0)
operand_fault declared count (t ∷ ts) = start_fault declared count (start_of t) t ts

-- the fault at a place where a group may go on or be closed
abbrev pub close_fault : Next → TokenValue → Option VerilogFault
close_fault nexts.Other t = Some (wrong t)
close_fault next t = None

abbrev pub group_fault : List TokenValue → Option VerilogFault
group_fault [] = Some (faults.Syntax 0)
group_fault (t ∷ ts) = close_fault (next_of t) t

-- where an operand is wanted, and what stands before has been made
abbrev pub BreaksAtOperand : Declarations → NetList → List TokenValue → VerilogFault → Type 0
BreaksAtOperand declared start tokens fault = (cuts : List Cut) × (here : List TokenValue) × (p : NetList × List Frame) × Begins declared cuts tokens here × AreWell cuts × (opened start cuts ≡ Ok p) × (operand_fault declared (depth cuts) here ≡ Some fault)

-- where the innermost thing open is a group with an expression in it, all of which has been made
abbrev pub BreaksInGroup : Declarations → NetList → List TokenValue → VerilogFault → Type 0
BreaksInGroup declared start tokens fault = (cuts : List Cut) × (inner : Tree) × (between : List TokenValue) × (here : List TokenValue) × (p : NetList × List Frame) × (q : NetList × Driver) × Begins declared (InGroup ∷ cuts) tokens between × AreWell (InGroup ∷ cuts) × Spells declared inner between here × IsWell inner × (nesting inner + depth (InGroup ∷ cuts) ≤ 1024) × (opened start (InGroup ∷ cuts) ≡ Ok p) × (made p.0 inner ≡ Ok q) × (group_fault here ≡ Some fault)

-- where the net of a left operand before a place, or of what an expression stands on that ends at one, passes a limit
abbrev pub BreaksLimit : Declarations → NetList → List TokenValue → NetFault → Type 0
BreaksLimit declared start tokens refusal =
    ((cuts : List Cut) × (here : List TokenValue) × Begins declared cuts tokens here × AreWell cuts × (opened start cuts ≡ Err refusal))
    ⊎ ((cuts : List Cut) × (tree : Tree) × (between : List TokenValue) × (here : List TokenValue) × (p : NetList × List Frame) × Begins declared cuts tokens between × AreWell cuts × Spells declared tree between here × IsWell tree × (level tree ≤ allowed cuts) × (level tree ≤ binding_at here) × (nesting tree + depth cuts ≤ 1024) × (opened start cuts ≡ Ok p) × (made p.0 tree ≡ Err refusal))

-- The longest expression with which the tokens begin, or the first fault where none stands.
abbrev pub Expression : Declarations → NetList → List TokenValue → Outcome VerilogFault Read
Expression declared start tokens (Ok read) = (tree : Tree) × Spells declared tree tokens read.rest × IsWell tree × (nesting tree ≤ 1024) × (continues read.rest ≡ false) × (made start tree ≡ Ok (read.net, read.driver))
Expression declared start tokens (Err fault) = BreaksAtOperand declared start tokens fault ⊎ (BreaksInGroup declared start tokens fault ⊎ ((refusal : NetFault) × BreaksLimit declared start tokens refusal × (fault ≡ faults.Net refusal)))
