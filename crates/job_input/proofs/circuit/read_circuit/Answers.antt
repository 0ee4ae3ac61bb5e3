use Rattle.job_io.specs.Counts.{Rose}
use Rattle.net_words.specs.Binding.{BoundNet}
use Rattle.job_words.proofs.StepLemmas.{after, stops}
use Rattle.job_input.specs.CircuitOf.{UnrolledIn}
use Rattle.job_input.specs.NetlistOf.{NetlistIn}
use Rattle.job_input.proofs.CycleLemmas.{still_taken_for}
use Rattle.job_input.proofs.circuit.read_circuit.Goals as goal

pub returns-in-Ok : goal.returns-in-Ok
returns-in-Ok g c =
    let file = c.args.file.now in
    let missed = Rose (g.S.Shelf.misses c.args.shelf.now) (g.S.Shelf.misses c.read_netlist.new.shelf) in
    let failed = Rose (g.S.Shelf.faults c.args.shelf.now) (g.S.Shelf.faults c.read_netlist.new.shelf) in
    record {
      held = c.read_netlist.ensures.held;
      never_fall = c.read_netlist.ensures.never_fall;
      gives = after {X = BoundNet} (λ circuit. circuit) c.unroll_netlist.result (NetlistIn (g.S.Shelf.held c.args.shelf.now) c.args.setting.now.signature file) (λ netlist. UnrolledIn file netlist c.args.cycles) c.in-Ok.netlist
          missed failed ⊥ ⊥ c.in-Ok.ensures.gives (λ m. absurd m) (λ f. absurd f) c.unroll_netlist.ensures.gives;
      taken = still_taken_for c.args.setting.now c.in-Ok.netlist c.unroll_netlist.result c.unroll_netlist.ensures.taken c.in-Ok.ensures.taken;
    }

pub returns-in-Err : goal.returns-in-Err
returns-in-Err g c =
    let file = c.args.file.now in
    let missed = Rose (g.S.Shelf.misses c.args.shelf.now) (g.S.Shelf.misses c.read_netlist.new.shelf) in
    let failed = Rose (g.S.Shelf.faults c.args.shelf.now) (g.S.Shelf.faults c.read_netlist.new.shelf) in
    record {
      held = c.read_netlist.ensures.held;
      never_fall = c.read_netlist.ensures.never_fall;
      gives = stops {X = BoundNet} {Y = BoundNet} (λ netlist. netlist) (λ circuit. circuit) c.in-Err.stop (NetlistIn (g.S.Shelf.held c.args.shelf.now) c.args.setting.now.signature file) (λ netlist. UnrolledIn file netlist c.args.cycles)
          missed failed missed failed (λ m. m) (λ f. f) c.in-Err.ensures.gives;
      taken = tt;
    }
