-- Of each text in structural Verilog there is a net or a fault.
use Rattle.std.proofs.Common.{ℕ, List, Result}
use Rattle.outcome.proofs.SomeLemmas.{some_bind, some_within}
use Rattle.outcome.specs.Outcome.{Within}
use Rattle.net_core.specs.NetList.{NetList}
use Rattle.net_core.specs.Finish.{Settles}
use Rattle.reader_laws.proofs.SettleExists.{some_settles}
use Rattle.net_verilog.specs.Tokens.{tokens_of}
use Rattle.net_verilog.specs.declared.fault.VerilogFault.{VerilogFault}
use Rattle.net_verilog.specs.declared.fault.VerilogFault.TheVariants.{Net}
use Rattle.verilog_reader.specs.Modules.{Module, VerilogNet}
use Rattle.reader_laws.proofs.ModuleExists.{some_module}
use Rattle.reader_laws.proofs.ModuleInside.{module_inside}

pub some_verilog : (text : List ℕ) → (outcome : Result NetList VerilogFault) × VerilogNet text outcome
some_verilog text =
    some_bind (Module (tokens_of text)) (λ made. Within Net (Settles made)) (some_module (tokens_of text)) (λ made is. some_within Net (Settles made) (some_settles made (module_inside (tokens_of text) made is)))
