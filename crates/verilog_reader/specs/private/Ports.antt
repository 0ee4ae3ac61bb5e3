-- Ports without the `)` after them: words of this crate's code. Source: this project's own.
use Rattle.std.specs.Prelude.{List, Option, None, Some}
use Rattle.outcome.specs.Outcome.{◌>>=◌, Exactly}
use Rattle.net_verilog.specs.Tokens.{TokenValue}
use Rattle.net_verilog.specs.Assigns.{Reads}
use Rattle.net_verilog.specs.Several.{Several}
use Rattle.net_verilog.specs.declared.declared.Direction.{Direction}
use Rattle.net_verilog.specs.declared.declared.Direction.TheVariants.{Wire}
use Rattle.verilog_reader.specs.Items.{State}
use Rattle.verilog_reader.specs.Modules.{PlainPort, ReadsPort}

-- the ports that begin with a token
abbrev pub NamesFrom : Option Direction → State → List TokenValue → Reads State
NamesFrom None state tokens = Several PlainPort state tokens
NamesFrom (Some direction) state tokens = do
  ports ← Several ReadsPort ((Wire, None), state) tokens
  Exactly (ports.0.1, ports.1)
