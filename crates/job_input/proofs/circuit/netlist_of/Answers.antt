use Rattle.net_words.specs.Binding.{BoundNet}
use Rattle.job_input.specs.NetlistOf.{BoundNetOf, by_ending}
use Rattle.job_input.proofs.StopLemmas.{netlist_stops}
use Rattle.job_input.proofs.circuit.netlist_of.Goals as goal

pub returns-in-Ok : goal.returns-in-Ok
returns-in-Ok c = record { gives = c.in-Ok.ensures.fits; bits = c.in-Ok.ensures.bits }

pub returns-in-Err : goal.returns-in-Err
returns-in-Err c = record {
  gives = netlist_stops {X = BoundNet} (λ netlist. netlist) c.args.file.now c.in-Err.refusal c.netlist_stop.result (BoundNetOf c.args.signature.now (by_ending c.args.file.now c.args.text.items)) c.in-Err.ensures.fits c.netlist_stop.ensures;
  bits = tt;
}
