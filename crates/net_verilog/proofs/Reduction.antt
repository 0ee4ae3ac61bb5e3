-- What comes of what is open, where an operator or a `)` ends it.
use Rattle.std.specs.Prelude.{ℕ, nat_le, List, [], ◌∷◌, Result, Ok, if◌then◌else◌}
use Rattle.outcome.specs.Steps.{on_value}
use Rattle.net_core.specs.NetList.{NetList}
use Rattle.net_core.specs.declared.fault.NetFault.{NetFault}
use Rattle.net_verilog.specs.Tree.{looseness}
use Rattle.net_verilog.specs.Made.{settled}
use Rattle.net_verilog.specs.declared.operator.Driver.{Driver}
use Rattle.net_verilog.specs.declared.operator.Driver.TheVariants as drivers
use Rattle.net_verilog.specs.declared.operator.Frame.{Frame}
use Rattle.net_verilog.specs.declared.operator.Frame.TheVariants as frames

-- the net list, what is open, the innermost first, and what was read last
pub record Reduced : Type 0 where
  pub net : NetList
  pub stack : List Frame
  pub driver : Driver

-- Ends each `~`, and each operator that binds at least as tightly as the cap, up to a group.
abbrev pub reduced : ℕ → NetList → List Frame → Driver → Result Reduced NetFault
reduced cap net [] driver = Ok (record { net = net; stack = []; driver = driver })
reduced cap net (frames.Group ∷ stack) driver = Ok (record { net = net; stack = frames.Group ∷ stack; driver = driver })
reduced cap net (frames.Not line ∷ stack) driver = on_value (λ p. reduced cap p.0 stack (drivers.Not line p.1)) (settled net driver)
reduced cap net (frames.Left line operator left ∷ stack) driver =
    if nat_le (looseness operator) cap then on_value (λ p. reduced cap p.0 stack (drivers.Binary line operator left p.1)) (settled net driver)
    else Ok (record { net = net; stack = frames.Left line operator left ∷ stack; driver = driver })
