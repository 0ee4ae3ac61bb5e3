use Rattle.std.proofs.Common.{inl, inr, sym}
use Rattle.net_verilog.specs.private.Places.{left}
use Rattle.net_verilog.proofs.AfterLemmas.{over}
use Rattle.net_verilog.proofs.InputLemmas.{comma_refused, net_refused}
use Rattle.net_verilog.proofs.instance.begin_instance.Goals as goal

pub returns-in-Err-clause-fault : goal.returns-in-Err-clause-fault
returns-in-Err-clause-fault c = over (λ is kind. inl (sym is)) c.in-Err.ensures.fault

pub returns-in-Err-take-clause-fault : goal.returns-in-Err-take-clause-fault
returns-in-Err-take-clause-fault c = over (λ is kind. inr (left c.in-Ok.named, sym c.in-Ok.ensures.found, inl (sym is))) c.in-Err-take.ensures.fault

pub returns-in-Err-read_net-clause-fault : goal.returns-in-Err-read_net-clause-fault
returns-in-Err-read_net-clause-fault c = over (net_refused c.args.declared.now c.args.maker.now (left c.args.place.now) (left c.in-Ok.named) (left c.in-Ok-take.found.1) c.in-Ok-take.found.0 c.in-Err-read_net.fault c.in-Ok.ensures.found c.in-Ok-take.ensures.found) c.in-Err-read_net.ensures.fault

pub returns-in-Err-take-2-clause-fault : goal.returns-in-Err-take-2-clause-fault
returns-in-Err-take-2-clause-fault c = over (comma_refused c.args.declared.now c.args.maker.now (left c.args.place.now) (left c.in-Ok.named) (left c.in-Ok-take.found.1) c.in-Ok-take.found.0 c.in-Err-take-2.fault c.in-Ok.ensures.found c.in-Ok-take.ensures.found c.read_net.new.maker c.in-Ok-read_net.found.0 (left c.in-Ok-read_net.found.1) c.in-Ok-read_net.ensures.made) c.in-Err-take-2.ensures.fault

pub returns-in-Ok-take-2-clause-made : goal.returns-in-Ok-take-2-clause-made
returns-in-Ok-take-2-clause-made c =
    record {
      named = left c.in-Ok.named;
      line = c.in-Ok-take.found.0;
      target = left c.in-Ok-take.found.1;
      comma = left c.in-Ok-read_net.found.1;
      second = c.in-Ok-take-2.field-0-0;
      skips = c.in-Ok.ensures.found;
      opens = c.in-Ok-take.ensures.found;
      mentions = c.in-Ok-read_net.ensures.made;
      takes = c.in-Ok-take-2.ensures.found;
    }
