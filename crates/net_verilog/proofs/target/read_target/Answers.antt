use Rattle.std.proofs.Common.{◌∙◌, ap, sym}
use Rattle.net_verilog.specs.Targets.{after_name}
use Rattle.net_verilog.specs.private.Places.{left}
use Rattle.net_verilog.proofs.AfterLemmas.{over}
use Rattle.net_verilog.proofs.TargetLemmas.{after_identifier, target_parts}
use Rattle.net_verilog.proofs.target.read_target.Goals as goal

pub returns-in-Err-clause-fault : goal.returns-in-Err-clause-fault
returns-in-Err-clause-fault c = over (λ is. target_parts c.args.declared.now (left c.args.place.now) ∙ ap (after_identifier c.args.declared.now) is) c.in-Err.ensures.fault

pub returns-in-Ok-after_name_of-clause-found : goal.returns-in-Ok-after_name_of-clause-found
returns-in-Ok-after_name_of-clause-found c = target_parts c.args.declared.now (left c.args.place.now) ∙ ap (after_identifier c.args.declared.now) c.in-Ok.ensures.found ∙ ap (λ r. after_name c.in-Ok.found.0.0 c.in-Ok.found.0.1.now r (left c.in-Ok.found.1)) (sym c.range_of.ensures.same) ∙ c.in-Ok-after_name_of.ensures.found

pub returns-in-Err-after_name_of-clause-fault : goal.returns-in-Err-after_name_of-clause-fault
returns-in-Err-after_name_of-clause-fault c = over (λ is. target_parts c.args.declared.now (left c.args.place.now) ∙ ap (after_identifier c.args.declared.now) c.in-Ok.ensures.found ∙ ap (λ r. after_name c.in-Ok.found.0.0 c.in-Ok.found.0.1.now r (left c.in-Ok.found.1)) (sym c.range_of.ensures.same) ∙ is) c.in-Err-after_name_of.ensures.fault
