-- Places in an expression as its reader meets them: words of this crate's code. Source: this project's own.
use Rattle.std.specs.Prelude.{◌≡◌, ℕ, ◌+◌, ◌≤◌, ◌-◌, List, [], ◌∷◌, Ok, Err, Option, None, Some}
use Rattle.net_core.specs.NetList.{NetList}
use Rattle.net_verilog.specs.Tokens.{TokenValue}
use Rattle.net_verilog.specs.Tree.{Tree, IsWell, looseness, level, nesting, Spells, Cut, AreWell, allowed, depth, Begins}
use Rattle.net_verilog.specs.Made.{made, opened}
use Rattle.net_verilog.specs.Declarations.{Declarations}
use Rattle.net_verilog.specs.Expression.{Expression, binding_at}
use Rattle.net_verilog.specs.declared.operator.Driver.{Driver}
use Rattle.net_verilog.specs.declared.operator.Frame.{Frame}
use Rattle.net_verilog.specs.declared.operator.Frame.TheVariants as frames
use Rattle.net_verilog.specs.declared.fault.VerilogFault.{VerilogFault}

-- an operand is wanted
pub record Standing (declared : Declarations) (start : NetList) (tokens : List TokenValue) (net : NetList) (stack : List Frame) (here : List TokenValue) : Type 0 where
  pub cuts : List Cut
  pub begins : Begins declared cuts tokens here
  pub well : AreWell cuts
  pub opens : opened start cuts ≡ Ok (net, stack)

-- an operand was read that binds no more loosely than the cap
pub record Holding (declared : Declarations) (start : NetList) (tokens : List TokenValue) (cap : ℕ) (net : NetList) (stack : List Frame) (driver : Driver) (here : List TokenValue) : Type 0 where
  pub cuts : List Cut
  pub tree : Tree
  pub between : List TokenValue
  pub mid : NetList
  pub begins : Begins declared cuts tokens between
  pub well : AreWell cuts
  pub spells : Spells declared tree between here
  pub tree_well : IsWell tree
  pub low : level tree ≤ cap
  pub ends : cap ≤ binding_at here
  pub fits : level tree ≤ allowed cuts
  pub flat : nesting tree + depth cuts ≤ 1024
  pub opens : opened start cuts ≡ Ok (mid, stack)
  pub makes : made mid tree ≡ Ok (net, driver)

-- what was read last, if it is an operand
abbrev pub Met : Declarations → NetList → List TokenValue → NetList → List Frame → Option Driver → List TokenValue → Type 0
Met declared start tokens net stack None here = Standing declared start tokens net stack here
Met declared start tokens net stack (Some driver) here = Holding declared start tokens 0 net stack driver here

-- where the one operand was read, within whatever expression, the other one is read that binds no more loosely than the cap either
abbrev pub StaysHeld : ℕ → NetList → List Frame → Driver → NetList → List Frame → Driver → Type 0
StaysHeld cap net stack driver more below ended = (declared : Declarations) → (start : NetList) → (tokens : List TokenValue) → (here : List TokenValue) → Holding declared start tokens cap net stack driver here → Holding declared start tokens cap more below ended here

-- where the operand was read, within whatever expression, this is the expression's first fault
abbrev pub BreaksHeld : ℕ → NetList → List Frame → Driver → VerilogFault → Type 0
BreaksHeld cap net stack driver fault = (declared : Declarations) → (start : NetList) → (tokens : List TokenValue) → (here : List TokenValue) → Holding declared start tokens cap net stack driver here → Expression declared start tokens (Err fault)

-- where the one was met at its place, within whatever expression, the other is met at its own
abbrev pub LeadsTo : Declarations → NetList → List Frame → Option Driver → List TokenValue → NetList → List Frame → Option Driver → List TokenValue → Type 0
LeadsTo declared net stack last here more next driver there = (start : NetList) → (tokens : List TokenValue) → Met declared start tokens net stack last here → Met declared start tokens more next driver there

-- where this was met, within whatever expression, the expression ends here, with these nets and this driver
abbrev pub EndsExpression : Declarations → NetList → List Frame → Option Driver → List TokenValue → NetList → Driver → Type 0
EndsExpression declared net stack last here more driver = (start : NetList) → (tokens : List TokenValue) → Met declared start tokens net stack last here → Expression declared start tokens (Ok (record { net = more; driver = driver; rest = here }))

-- where this was met, within whatever expression, this is the expression's first fault
abbrev pub BreaksExpression : Declarations → NetList → List Frame → Option Driver → List TokenValue → VerilogFault → Type 0
BreaksExpression declared net stack last here fault = (start : NetList) → (tokens : List TokenValue) → Met declared start tokens net stack last here → Expression declared start tokens (Err fault)

-- what the frames let stand next
abbrev pub allows : List Frame → ℕ
allows [] = 3
allows (frames.Group ∷ stack) = 3
allows (frames.Not line ∷ stack) = 0
allows (frames.Left line operator net ∷ stack) = looseness operator - 1
