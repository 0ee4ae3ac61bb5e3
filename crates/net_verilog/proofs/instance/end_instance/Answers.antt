use Rattle.std.proofs.Common.{inl, inr, refl, sym}
use Rattle.net_verilog.specs.private.Places.{left}
use Rattle.net_verilog.proofs.AfterLemmas.{over}
use Rattle.net_verilog.proofs.instance.end_instance.Goals as goal

pub returns-in-Err-clause-fault : goal.returns-in-Err-clause-fault
returns-in-Err-clause-fault c = over (λ is. inl (sym is)) c.in-Err.ensures.fault

pub returns-in-Ok-place_gate-clause-made : goal.returns-in-Ok-place_gate-clause-made
returns-in-Ok-place_gate-clause-made c = ((c.in-Ok.found.0, left c.in-Ok.found.1), sym c.in-Ok.ensures.found, (c.place_gate.new.maker, sym c.in-Ok-place_gate.ensures.made, refl))

pub returns-in-Err-place_gate-clause-fault : goal.returns-in-Err-place_gate-clause-fault
returns-in-Err-place_gate-clause-fault c = over (λ is. inr ((c.in-Ok.found.0, left c.in-Ok.found.1), sym c.in-Ok.ensures.found, inl (sym is))) c.in-Err-place_gate.ensures.fault
