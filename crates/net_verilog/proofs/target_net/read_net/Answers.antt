use Rattle.std.proofs.Common.{rules, inl}
use Rattle.net_verilog.specs.private.Places.{left}
use Rattle.net_verilog.proofs.AfterLemmas.{over}
use Rattle.net_verilog.proofs.InputLemmas.{no_net}
use Rattle.net_verilog.proofs.target_net.read_net.Goals as goal

pub returns-in-Err-clause-fault : goal.returns-in-Err-clause-fault
returns-in-Err-clause-fault c = over (λ is. inl is) c.in-Err.ensures.fault

pub returns-in-Ok-mentioned-clause-made : goal.returns-in-Ok-mentioned-clause-made
returns-in-Ok-mentioned-clause-made c = record { name = c.in-Ok.found.0; targets = c.in-Ok.ensures.found; mentions = search rules }

pub returns-clause-fault : goal.returns-clause-fault
returns-clause-fault c = no_net c.args.declared.now c.args.maker.now (left c.args.place.now) (left c.in-Ok.found.1) c.in-Ok.found.0 c.in-Err-mentioned.fault c.in-Ok.ensures.found (search rules)
