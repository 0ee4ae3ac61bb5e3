use Rattle.std.proofs.Common.{rules, ◌≡◌, ◌∙◌, ap, sym, true, false, Ok, Err}
use Rattle.net_verilog.specs.Tokens.{unless_end}
use Rattle.net_verilog.specs.private.Places.{left, value_of}
use Rattle.net_verilog.proofs.AfterLemmas.{over}
use Rattle.verilog_reader.specs.Modules.{port_direction}
use Rattle.verilog_reader.proofs.PortListLemmas.{close_goes, names_closed, names_open, names_refused, ports_after, ports_close}
use Rattle.verilog_reader.proofs.port_list.read_ports_after.Goals as goal

pub returns-then-is_sign-clause-made : goal.returns-then-is_sign-clause-made
returns-then-is_sign-clause-made c =
    let some : c.is_sign.result ≡ true = search rules in
    let closes = sym c.is_sign.ensures ∙ some in
    ports_close (c.args.declared.now, c.args.maker.now) (left c.args.place.now) (left c.next.result.1) (value_of c.next.result.0) (c.next.ensures.more (close_goes c.next.result.0.kind closes)) closes

pub returns-in-Err-clause-fault : goal.returns-in-Err-clause-fault
returns-in-Err-clause-fault c =
    let none : c.is_sign.result ≡ false = search rules in
    over (λ refuses. ports_after (c.args.declared.now, c.args.maker.now) (left c.args.place.now) (unless_end c.next.result.0.kind (left c.next.result.1)) (value_of c.next.result.0) c.port_direction-start.result (Err c.in-Err.fault) c.next.ensures.next (sym c.is_sign.ensures ∙ none) (c.port_direction-start.ensures ∙ ap port_direction c.item_start.ensures) (names_refused c.port_direction-start.result (c.args.declared.now, c.args.maker.now) (left c.args.place.now) c.in-Err.fault refuses)) c.in-Err.ensures.fault

pub returns-in-Ok-take-clause-made : goal.returns-in-Ok-take-clause-made
returns-in-Ok-take-clause-made c =
    let none : c.is_sign.result ≡ false = search rules in
    ports_after (c.args.declared.now, c.args.maker.now) (left c.args.place.now) (unless_end c.next.result.0.kind (left c.next.result.1)) (value_of c.next.result.0) c.port_direction-start.result (Ok ((c.read_ports_from.new.declared, c.read_ports_from.new.maker), left c.in-Ok-take.after)) c.next.ensures.next (sym c.is_sign.ensures ∙ none) (c.port_direction-start.ensures ∙ ap port_direction c.item_start.ensures) (names_closed c.port_direction-start.result (c.args.declared.now, c.args.maker.now) (c.read_ports_from.new.declared, c.read_ports_from.new.maker) (left c.args.place.now) (left c.in-Ok.right) (left c.in-Ok-take.after) c.in-Ok-take.field-0-0 c.in-Ok.ensures.made c.in-Ok-take.ensures.found)

pub returns-in-Err-take-clause-fault : goal.returns-in-Err-take-clause-fault
returns-in-Err-take-clause-fault c =
    let none : c.is_sign.result ≡ false = search rules in
    over (λ is. ports_after (c.args.declared.now, c.args.maker.now) (left c.args.place.now) (unless_end c.next.result.0.kind (left c.next.result.1)) (value_of c.next.result.0) c.port_direction-start.result (Err c.in-Err-take.fault) c.next.ensures.next (sym c.is_sign.ensures ∙ none) (c.port_direction-start.ensures ∙ ap port_direction c.item_start.ensures) (names_open c.port_direction-start.result (c.args.declared.now, c.args.maker.now) (c.read_ports_from.new.declared, c.read_ports_from.new.maker) (left c.args.place.now) (left c.in-Ok.right) c.in-Err-take.fault c.in-Ok.ensures.made is)) c.in-Err-take.ensures.fault
