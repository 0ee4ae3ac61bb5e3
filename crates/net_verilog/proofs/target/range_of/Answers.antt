use Rattle.std.proofs.Common.{ap, sym, Some}
use Rattle.std.specs.Option.{option_map}
use Rattle.net_verilog.specs.declared.declared.Declared.{Declared}
use Rattle.net_verilog.proofs.TableLemmas.{bits_named}
use Rattle.net_verilog.proofs.target.range_of.Goals as goal

pub returns-in-Some-clause-bits : goal.returns-in-Some-clause-bits
returns-in-Some-clause-bits c = bits_named c.args.declared.now c.args.name.now c.in-Some.ensures.names (Some c.in-Some.d.range) (ap (option_map (λ (x : Declared). x.range)) (sym c.in-Some.ensures.same))
