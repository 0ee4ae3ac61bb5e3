use Rattle.net_verilog.specs.private.Places.{left}
use Rattle.net_verilog.proofs.AfterLemmas.{over}
use Rattle.verilog_reader.proofs.ModuleLemmas.{end_refused, items_refused, module_made, ports_refused, sign_refused}
use Rattle.verilog_reader.proofs.module.read_module.Goals as goal

pub returns-in-Err-read_port_list-clause-fault : goal.returns-in-Err-read_port_list-clause-fault
returns-in-Err-read_port_list-clause-fault c = over (ports_refused (left c.args.place.now) (left c.in-Ok.begun) c.in-Ok.ensures.found ((c.in-Ok-read_identifier.found.0.0, c.in-Ok-read_identifier.found.0.1.now), left c.in-Ok-read_identifier.found.1) c.in-Ok-read_identifier.ensures.found (c.args.declared.now, c.args.maker.now) (λ i. (c.requires.names i, c.requires.net i)) c.in-Err-read_port_list.fault) c.in-Err-read_port_list.ensures.fault

pub returns-in-Err-take-clause-fault : goal.returns-in-Err-take-clause-fault
returns-in-Err-take-clause-fault c = over (sign_refused (left c.args.place.now) (left c.in-Ok.begun) c.in-Ok.ensures.found ((c.in-Ok-read_identifier.found.0.0, c.in-Ok-read_identifier.found.0.1.now), left c.in-Ok-read_identifier.found.1) c.in-Ok-read_identifier.ensures.found (c.args.declared.now, c.args.maker.now) (λ i. (c.requires.names i, c.requires.net i)) ((c.read_port_list.new.declared, c.read_port_list.new.maker), left c.in-Ok-read_port_list.sign) c.in-Ok-read_port_list.ensures.made c.in-Err-take.fault) c.in-Err-take.ensures.fault

pub returns-in-Err-read_items-clause-fault : goal.returns-in-Err-read_items-clause-fault
returns-in-Err-read_items-clause-fault c = over (items_refused (left c.args.place.now) (left c.in-Ok.begun) c.in-Ok.ensures.found ((c.in-Ok-read_identifier.found.0.0, c.in-Ok-read_identifier.found.0.1.now), left c.in-Ok-read_identifier.found.1) c.in-Ok-read_identifier.ensures.found (c.args.declared.now, c.args.maker.now) (λ i. (c.requires.names i, c.requires.net i)) ((c.read_port_list.new.declared, c.read_port_list.new.maker), left c.in-Ok-read_port_list.sign) c.in-Ok-read_port_list.ensures.made (c.in-Ok-take.found.0, left c.in-Ok-take.found.1) c.in-Ok-take.ensures.found c.in-Err-read_items.fault) c.in-Err-read_items.ensures.fault

pub returns-in-Err-check_end-clause-fault : goal.returns-in-Err-check_end-clause-fault
returns-in-Err-check_end-clause-fault c = over (λ refuses. end_refused (left c.args.place.now) (left c.in-Ok.begun) c.in-Ok.ensures.found ((c.in-Ok-read_identifier.found.0.0, c.in-Ok-read_identifier.found.0.1.now), left c.in-Ok-read_identifier.found.1) c.in-Ok-read_identifier.ensures.found (c.args.declared.now, c.args.maker.now) (λ i. (c.requires.names i, c.requires.net i)) ((c.read_port_list.new.declared, c.read_port_list.new.maker), left c.in-Ok-read_port_list.sign) c.in-Ok-read_port_list.ensures.made (c.in-Ok-take.found.0, left c.in-Ok-take.found.1) c.in-Ok-take.ensures.found ((c.read_items.new.declared, c.read_items.new.maker), left c.in-Ok-read_items.end) c.in-Ok-read_items.ensures.made c.in-Err-check_end.fault (refuses c.read_items.new.maker)) c.in-Err-check_end.ensures.fault

pub returns-in-Ok-check_end-clause-made : goal.returns-in-Ok-check_end-clause-made
returns-in-Ok-check_end-clause-made c = module_made (left c.args.place.now) (left c.in-Ok.begun) c.in-Ok.ensures.found ((c.in-Ok-read_identifier.found.0.0, c.in-Ok-read_identifier.found.0.1.now), left c.in-Ok-read_identifier.found.1) c.in-Ok-read_identifier.ensures.found (c.args.declared.now, c.args.maker.now) (λ i. (c.requires.names i, c.requires.net i)) ((c.read_port_list.new.declared, c.read_port_list.new.maker), left c.in-Ok-read_port_list.sign) c.in-Ok-read_port_list.ensures.made (c.in-Ok-take.found.0, left c.in-Ok-take.found.1) c.in-Ok-take.ensures.found ((c.read_items.new.declared, c.read_items.new.maker), left c.in-Ok-read_items.end) c.in-Ok-read_items.ensures.made c.read_items.new.maker (c.in-Ok-check_end.ensures.found c.read_items.new.maker)
