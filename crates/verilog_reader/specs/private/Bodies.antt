-- Items without the `;` after them: words of this crate's code. Source: this project's own.
use Rattle.std.specs.Prelude.{List, Err}
use Rattle.outcome.specs.Outcome.{◌>>=◌, Exactly, Returns}
use Rattle.net_verilog.specs.Tokens.{TokenValue}
use Rattle.net_verilog.specs.Assigns.{Assigns, Reads}
use Rattle.net_verilog.specs.Several.{Several}
use Rattle.net_verilog.specs.Instances.{ReadsInstance}
use Rattle.net_verilog.specs.declared.declared.Direction.{Direction}
use Rattle.verilog_reader.specs.Declares.{ReadsName}
use Rattle.verilog_reader.specs.Items.{State, declared_range, item_fault}
use Rattle.verilog_reader.specs.declared.starts.ItemStart.{ItemStart}
use Rattle.verilog_reader.specs.declared.starts.ItemStart.TheVariants.{Declaration, Assignments, Instances, Other}

-- `[wire] [range] id {, id}`
abbrev pub DeclaresNames : Direction → State → List TokenValue → Reads State
DeclaresNames direction state tokens = do
  ranged ← Returns (declared_range direction tokens)
  Several (ReadsName ranged.0 direction) state ranged.1

-- an item up to its `;`, by its first token
abbrev pub Body : ItemStart → State → TokenValue → List TokenValue → Reads State
Body (Declaration direction) state t ts = DeclaresNames direction state ts
Body Assignments state t ts = do
  net ← Several (Assigns state.0) state.1 ts
  Exactly ((state.0, net.0), net.1)
Body (Instances kind) state t ts = do
  net ← Several (ReadsInstance state.0 kind) state.1 ts
  Exactly ((state.0, net.0), net.1)
Body Other state t ts = Returns (Err (item_fault t))
