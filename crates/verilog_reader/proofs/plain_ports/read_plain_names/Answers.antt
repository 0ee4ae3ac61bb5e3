use Rattle.std.proofs.Common.{rules, ◌≡◌, ◌∙◌, ap, inl, sym, refl, subst, true, false, List, Ok, Err}
use Rattle.net_verilog.specs.Tokens.{TokenValue}
use Rattle.net_verilog.specs.Several.{Several, after_first, comma_first}
use Rattle.net_verilog.specs.private.Places.{left}
use Rattle.net_verilog.proofs.AfterLemmas.{over}
use Rattle.net_verilog.proofs.SeveralLemmas.{comma_goes, several_fails, several_last, several_more}
use Rattle.verilog_reader.specs.Modules.{PlainPort}
use Rattle.verilog_reader.proofs.plain_ports.read_plain_names.Goals as goal

pub returns-in-Err-clause-fault : goal.returns-in-Err-clause-fault
returns-in-Err-clause-fault c = over (λ is state. c.loop-found.invariant.onward state (Err c.in-Err.fault) (several_fails PlainPort state (left c.loop-found.here) c.in-Err.fault (inl (sym is)))) c.in-Err.ensures.fault

pub returns-then-not-is_sign-clause-made : goal.returns-then-not-is_sign-clause-made
returns-then-not-is_sign-clause-made c = λ state.
    let none : c.is_sign.result ≡ false = search rules in
    let ends : comma_first (left c.in-Ok.found.1) ≡ false = ap comma_first c.next.ensures.next ∙ sym c.is_sign.ensures ∙ none in
    c.loop-found.invariant.onward state (Ok (state, left c.in-Ok.found.1)) (several_last PlainPort state state (left c.loop-found.here) (left c.in-Ok.found.1) (((c.in-Ok.found.0.0, c.in-Ok.found.0.1.now), left c.in-Ok.found.1), sym c.in-Ok.ensures.found, refl) ends)

pub loop-found-preserved : goal.loop-found-preserved
loop-found-preserved c =
    let some : c.is_sign.result ≡ true = search rules in
    let more = c.next.ensures.more (comma_goes c.next.result.0.kind (sym c.is_sign.ensures ∙ some)) in
    let goes : comma_first (left c.in-Ok.found.1) ≡ true = ap comma_first more ∙ sym c.is_sign.ensures ∙ some in
    record {
      onward = λ state outcome rest.
          let P : List TokenValue → Type 0 = λ ts. Several PlainPort state ts outcome in
          c.loop-found.invariant.onward state outcome (several_more PlainPort state state (left c.loop-found.here) (left c.in-Ok.found.1) outcome (((c.in-Ok.found.0.0, c.in-Ok.found.0.1.now), left c.in-Ok.found.1), sym c.in-Ok.ensures.found, refl) goes (subst P (sym (ap after_first more)) rest));
      shorter = search rules;
    }
