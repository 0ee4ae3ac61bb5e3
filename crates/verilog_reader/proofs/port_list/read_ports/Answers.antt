use Rattle.std.proofs.Common.{rules, ◌≡◌, ◌∙◌, ap, sym, subst, true, false, List, Ok, Err}
use Rattle.net_verilog.specs.Tokens.{TokenValue}
use Rattle.net_verilog.specs.Several.{Several, after_first, comma_first}
use Rattle.net_verilog.specs.private.Places.{left}
use Rattle.net_verilog.proofs.AfterLemmas.{over}
use Rattle.net_verilog.proofs.SeveralLemmas.{comma_goes, several_fails, several_last, several_more}
use Rattle.verilog_reader.specs.Modules.{ReadsPort}
use Rattle.verilog_reader.proofs.port_list.read_ports.Goals as goal

pub returns-in-Err-clause-fault : goal.returns-in-Err-clause-fault
returns-in-Err-clause-fault c = over (λ refuses. c.loop-found.invariant.onward (Err c.in-Err.fault) (several_fails ReadsPort ((c.loop-found.head.direction, c.loop-found.head.range), (c.loop-found.declared, c.loop-found.maker)) (left c.loop-found.here) c.in-Err.fault refuses)) c.in-Err.ensures.fault

pub returns-then-not-is_sign-clause-made : goal.returns-then-not-is_sign-clause-made
returns-then-not-is_sign-clause-made c =
    let none : c.is_sign.result ≡ false = search rules in
    let ends : comma_first (left c.in-Ok.found.1) ≡ false = ap comma_first c.next.ensures.next ∙ sym c.is_sign.ensures ∙ none in
    c.loop-found.invariant.onward (Ok (((c.in-Ok.found.0.direction, c.in-Ok.found.0.range), (c.read_port.new.declared, c.read_port.new.maker)), left c.in-Ok.found.1)) (several_last ReadsPort ((c.loop-found.head.direction, c.loop-found.head.range), (c.loop-found.declared, c.loop-found.maker)) ((c.in-Ok.found.0.direction, c.in-Ok.found.0.range), (c.read_port.new.declared, c.read_port.new.maker)) (left c.loop-found.here) (left c.in-Ok.found.1) c.in-Ok.ensures.made ends)

pub loop-found-preserved : goal.loop-found-preserved
loop-found-preserved c =
    let some : c.is_sign.result ≡ true = search rules in
    let more = c.next.ensures.more (comma_goes c.next.result.0.kind (sym c.is_sign.ensures ∙ some)) in
    let goes : comma_first (left c.in-Ok.found.1) ≡ true = ap comma_first more ∙ sym c.is_sign.ensures ∙ some in
    record {
      onward = λ outcome rest.
          let P : List TokenValue → Type 0 = λ ts. Several ReadsPort ((c.in-Ok.found.0.direction, c.in-Ok.found.0.range), (c.read_port.new.declared, c.read_port.new.maker)) ts outcome in
          c.loop-found.invariant.onward outcome (several_more ReadsPort ((c.loop-found.head.direction, c.loop-found.head.range), (c.loop-found.declared, c.loop-found.maker)) ((c.in-Ok.found.0.direction, c.in-Ok.found.0.range), (c.read_port.new.declared, c.read_port.new.maker)) (left c.loop-found.here) (left c.in-Ok.found.1) outcome c.in-Ok.ensures.made goes (subst P (sym (ap after_first more)) rest));
      small = c.in-Ok.ensures.small;
      shorter = search rules;
    }
