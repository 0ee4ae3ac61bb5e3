use Rattle.std.proofs.Common.{◌∙◌, sym}
use Rattle.verilog_reader.proofs.FoundLemmas.{found_short}
use Rattle.verilog_reader.proofs.bits.bits_found.Goals as goal

pub returns : goal.returns
returns c = found_short c.args.declared.now c.args.name.now c.args.low c.args.high c.requires (sym c.in_ok-is_long.ensures ∙ c.if-branch.false) c.in_ok-met.met c.in_ok-met.ensures
