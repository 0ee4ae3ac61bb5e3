use Rattle.std.proofs.Common.{rules, ◌≡◌, ◌∙◌, ap, sym, subst, true, false, List, Ok, Err}
use Rattle.net_verilog.specs.Tokens.{TokenValue}
use Rattle.net_verilog.specs.Assigns.{Assigns}
use Rattle.net_verilog.specs.Several.{Several, after_first, comma_first}
use Rattle.net_verilog.specs.private.Places.{left}
use Rattle.net_verilog.proofs.AfterLemmas.{over}
use Rattle.net_verilog.proofs.SeveralLemmas.{comma_goes, several_fails, several_last, several_more}
use Rattle.net_verilog.proofs.assign_list.read_assignments.Goals as goal

pub returns-in-Err-clause-fault : goal.returns-in-Err-clause-fault
returns-in-Err-clause-fault c = over (λ refuses. c.loop-next.invariant.onward (Err c.in-Err.fault) (several_fails (Assigns c.args.declared.now) c.loop-next.maker (left c.loop-next.here) c.in-Err.fault refuses)) c.in-Err.ensures.fault

pub returns-then-not-is_sign-clause-made : goal.returns-then-not-is_sign-clause-made
returns-then-not-is_sign-clause-made c =
    let none : c.is_sign.result ≡ false = search rules in
    let ends : comma_first (left c.in-Ok.next) ≡ false = ap comma_first c.next.ensures.next ∙ sym c.is_sign.ensures ∙ none in
    c.loop-next.invariant.onward (Ok (c.read_assignment.new.maker, left c.in-Ok.next)) (several_last (Assigns c.args.declared.now) c.loop-next.maker c.read_assignment.new.maker (left c.loop-next.here) (left c.in-Ok.next) c.in-Ok.ensures.made ends)

pub loop-next-preserved : goal.loop-next-preserved
loop-next-preserved c =
    let some : c.is_sign.result ≡ true = search rules in
    let more = c.next.ensures.more (comma_goes c.next.result.0.kind (sym c.is_sign.ensures ∙ some)) in
    let goes : comma_first (left c.in-Ok.next) ≡ true = ap comma_first more ∙ sym c.is_sign.ensures ∙ some in
    record {
      onward = λ outcome rest.
          let P : List TokenValue → Type 0 = λ ts. Several (Assigns c.args.declared.now) c.read_assignment.new.maker ts outcome in
          c.loop-next.invariant.onward outcome (several_more (Assigns c.args.declared.now) c.loop-next.maker c.read_assignment.new.maker (left c.loop-next.here) (left c.in-Ok.next) outcome c.in-Ok.ensures.made goes (subst P (sym (ap after_first more)) rest));
      shorter = search rules;
    }
