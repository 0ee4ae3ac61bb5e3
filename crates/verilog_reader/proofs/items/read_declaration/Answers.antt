use Rattle.std.proofs.Common.{◌≤◌, arith, inl, inr, length, sym}
use Rattle.std.proofs.lemmas.Result.{IfErr-weaker, IfOk-weaker}
use Rattle.net_verilog.specs.private.Places.{left}
use Rattle.net_verilog.proofs.AfterLemmas.{over}
use Rattle.verilog_reader.proofs.items.read_declaration.Goals as goal

pub returns-in-Err-clause-fault : goal.returns-in-Err-clause-fault
returns-in-Err-clause-fault c = over (λ is. inl (sym is)) c.in-Err.ensures.fault

pub returns-clause-made : goal.returns-clause-made
returns-clause-made c = IfOk-weaker c.read_names.result _ _ (λ end made. ((c.in-Ok.found.0, left c.in-Ok.found.1), sym c.in-Ok.ensures.found, made)) c.read_names.ensures.made

pub returns-clause-shorter : goal.returns-clause-shorter
returns-clause-shorter c =
    let first : length c.in-Ok.found.1.rest.now ≤ length c.args.place.now.rest.now = c.in-Ok.ensures.shorter in
    IfOk-weaker c.read_names.result _ _ (λ end less. omega (arith, first, less)) c.read_names.ensures.shorter

pub returns-clause-fault : goal.returns-clause-fault
returns-clause-fault c = IfErr-weaker c.read_names.result _ _ (λ e. over (λ refuses. inr ((c.in-Ok.found.0, left c.in-Ok.found.1), sym c.in-Ok.ensures.found, refuses))) c.read_names.ensures.fault
