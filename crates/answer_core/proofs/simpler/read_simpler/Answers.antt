use Rattle.net_words.specs.Binding.{BoundNet}
use Rattle.job_io.specs.Counts.{Rose}
use Rattle.job_words.proofs.StepLemmas.{after, stops}
use Rattle.job_input.specs.CircuitOf.{CircuitIn}
use Rattle.job_input.proofs.CycleLemmas.{still_taken_for}
use Rattle.answer_core.specs.Simpler.{SimplerOf}
use Rattle.answer_core.proofs.simpler.read_simpler.Goals as goal

pub returns-in-Ok : goal.returns-in-Ok
returns-in-Ok g c =
    let missed = Rose (g.S.Shelf.misses c.args.shelf.now) (g.S.Shelf.misses c.read_circuit.new.shelf) in
    let failed = Rose (g.S.Shelf.faults c.args.shelf.now) (g.S.Shelf.faults c.read_circuit.new.shelf) in
    record {
      held = c.read_circuit.ensures.held;
      never_fall = c.read_circuit.ensures.never_fall;
      gives = after {X = BoundNet} (λ circuit. circuit) c.simpler.result (CircuitIn (g.S.Shelf.held c.args.shelf.now) c.args.setting.now.signature c.args.file.now c.args.cycles) (λ circuit. SimplerOf c.args.simple circuit) c.in-Ok.circuit
          missed failed ⊥ ⊥ c.in-Ok.ensures.gives (λ m. absurd m) (λ f. absurd f) c.simpler.ensures.gives;
      taken = still_taken_for c.args.setting.now c.in-Ok.circuit c.simpler.result c.simpler.ensures.taken c.in-Ok.ensures.taken;
    }

pub returns-in-Err : goal.returns-in-Err
returns-in-Err g c =
    let missed = Rose (g.S.Shelf.misses c.args.shelf.now) (g.S.Shelf.misses c.read_circuit.new.shelf) in
    let failed = Rose (g.S.Shelf.faults c.args.shelf.now) (g.S.Shelf.faults c.read_circuit.new.shelf) in
    record {
      held = c.read_circuit.ensures.held;
      never_fall = c.read_circuit.ensures.never_fall;
      gives = stops {X = BoundNet} {Y = BoundNet} (λ circuit. circuit) (λ circuit. circuit) c.in-Err.stop (CircuitIn (g.S.Shelf.held c.args.shelf.now) c.args.setting.now.signature c.args.file.now c.args.cycles) (λ circuit. SimplerOf c.args.simple circuit)
          missed failed missed failed (λ m. m) (λ f. f) c.in-Err.ensures.gives;
      taken = tt;
    }
