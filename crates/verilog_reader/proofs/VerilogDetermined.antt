-- At most one net or fault comes of a text.
use Rattle.std.proofs.Common.{arith, ℕ, List, Ok}
use Rattle.outcome.specs.Outcome.{Determined, Within}
use Rattle.outcome.proofs.DeterminedLemmas.{determined_after, determined_within}
use Rattle.net_core.specs.NetList.{NetList, empty}
use Rattle.net_core.specs.Finish.{Settles}
use Rattle.net_core.proofs.DriverLemmas.{DriveNets}
use Rattle.net_core.proofs.SettleLemmas.{settles_determined}
use Rattle.net_verilog.specs.Tokens.{tokens_of}
use Rattle.net_verilog.specs.declared.fault.VerilogFault.TheVariants.{Net}
use Rattle.verilog_reader.specs.Modules.{Module, VerilogNet}
use Rattle.verilog_reader.proofs.ModuleDetermined.{module_determined}
use Rattle.verilog_reader.proofs.TextLemmas.{module_keeps, tokens_print}

none_drive : DriveNets empty
none_drive = λ k d less. absurd (omega (arith, less))

-- the gates of a module drive nets that exist
pub module_drives : (text : List ℕ) (net : NetList) → Module (tokens_of text) (Ok net) → DriveNets net
module_drives text net is = (module_keeps (tokens_of text) (tokens_print text) (Ok net) is).drives none_drive

pub verilog_determined : (text : List ℕ) → Determined (VerilogNet text)
verilog_determined text =
    determined_after (Module (tokens_of text)) (λ made. Within Net (Settles made)) (module_determined (tokens_of text))
    (λ made is. determined_within Net (Settles made) (settles_determined made (module_drives text made is)))
