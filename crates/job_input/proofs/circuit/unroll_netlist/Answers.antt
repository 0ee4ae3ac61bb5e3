use Rattle.net_words.specs.Binding.{BoundNet}
use Rattle.job_input.specs.CircuitOf.{CircuitOf}
use Rattle.job_input.proofs.CycleLemmas.{circuit_taken}
use Rattle.job_input.proofs.StopLemmas.{netlist_stops}
use Rattle.job_input.proofs.circuit.unroll_netlist.Goals as goal

pub returns-in-Ok : goal.returns-in-Ok
returns-in-Ok c = record { gives = c.in-Ok.ensures.fits; taken = circuit_taken c.args.netlist c.in-Ok.circuit c.args.cycles c.in-Ok.ensures.fits }

pub returns-in-Err : goal.returns-in-Err
returns-in-Err c = record {
  gives = netlist_stops {X = BoundNet} (λ circuit. circuit) c.args.file.now c.in-Err.refusal c.netlist_stop.result (CircuitOf c.args.netlist c.args.cycles) c.in-Err.ensures.fits c.netlist_stop.ensures;
  taken = tt;
}
