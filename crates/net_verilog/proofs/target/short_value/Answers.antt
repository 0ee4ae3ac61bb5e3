use Rattle.net_verilog.proofs.DecimalLemmas.{short_none}
use Rattle.net_verilog.proofs.target.short_value.Goals as goal

pub returns-in-None : goal.returns-in-None
returns-in-None c = short_none c.args.text.now c.requires c.in-None.ensures.none
