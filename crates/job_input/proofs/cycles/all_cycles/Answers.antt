use Rattle.std.proofs.Common.{ap, Err}
use Rattle.job_input.proofs.CycleLemmas.{circuit_made, cycles_refused}
use Rattle.job_input.proofs.cycles.all_cycles.Goals as goal

pub returns-in-Ok : goal.returns-in-Ok
returns-in-Ok c =
    let made = rw (c.into_parts-net.ensures.net, c.into_parts-net.ensures.binding) at c.in-Ok.ensures.made in
    let nets = rw (c.into_parts-net.ensures.net, c.into_parts-net.ensures.binding) at c.in-Ok.ensures.nets in
    let room = rw (c.into_parts-net.ensures.net, c.into_parts-net.ensures.binding) at c.in-Ok.ensures.room in
    record { fits = circuit_made c.args.netlist c.in-Ok.circuit c.args.cycles made (λ many. let wrong = nets.1 many in absurd (cc)) room }

pub returns-in-Err : goal.returns-in-Err
returns-in-Err c =
    let nets = rw (c.into_parts-net.ensures.net, c.into_parts-net.ensures.binding) at c.in-Err.ensures.nets in
    let gates = rw (c.into_parts-net.ensures.net, c.into_parts-net.ensures.binding) at c.in-Err.ensures.gates in
    record { fits = rw c.unroll_fault.ensures (cycles_refused c.args.netlist c.args.cycles c.in-Err.fault (λ is. nets.0 (ap Err is)) (λ over. let told = nets.1 over in cc) (λ is. gates (ap Err is))) }
