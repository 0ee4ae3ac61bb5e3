use Rattle.outcome.specs.Outcome.{Within}
use Rattle.job_io.specs.Counts.{Rose}
use Rattle.net_words.specs.Binding.{BoundNet}
use Rattle.job_words.specs.declared.fault.Fault.TheVariants.{File, Netlist}
use Rattle.job_words.specs.Stop.{bytes_of}
use Rattle.job_words.proofs.StepLemmas.{after, stops}
use Rattle.job_input.specs.File.{Read}
use Rattle.job_input.specs.NetlistOf.{BoundNetOf, by_ending}
use Rattle.job_input.proofs.CircuitLemmas.{taken_for}
use Rattle.job_input.proofs.circuit.read_netlist.Goals as goal

pub returns-in-Err : goal.returns-in-Err
returns-in-Err g c =
    let signature = c.args.setting.now.signature in
    let file = c.args.file.now in
    let missed = Rose (g.S.Shelf.misses c.args.shelf.now) (g.S.Shelf.misses c.read_file.new.shelf) in
    let failed = Rose (g.S.Shelf.faults c.args.shelf.now) (g.S.Shelf.faults c.read_file.new.shelf) in
    record {
      held = c.read_file.ensures.held;
      never_fall = c.read_file.ensures.never_fall;
      gives = stops {Y = BoundNet} bytes_of (λ circuit. circuit) c.in-Err.stop (Within File (Read (g.S.Shelf.held c.args.shelf.now) file)) (λ text. Within (Netlist file) (BoundNetOf signature (by_ending file text)))
          missed failed missed failed (λ m. m) (λ f. f) c.in-Err.ensures.gives;
      taken = tt;
    }

pub netlist_of-requires : goal.netlist_of-requires
netlist_of-requires g c = record { short = c.in-Ok.ensures.short; words = (c.requires.0, c.requires.2.words, c.requires.2.feeds) }

pub returns : goal.returns
returns g c =
    let signature = c.args.setting.now.signature in
    let file = c.args.file.now in
    let missed = Rose (g.S.Shelf.misses c.args.shelf.now) (g.S.Shelf.misses c.read_file.new.shelf) in
    let failed = Rose (g.S.Shelf.faults c.args.shelf.now) (g.S.Shelf.faults c.read_file.new.shelf) in
    record {
      held = c.read_file.ensures.held;
      never_fall = c.read_file.ensures.never_fall;
      gives = after {X = BoundNet} (λ circuit. circuit) c.netlist_of.result (Within File (Read (g.S.Shelf.held c.args.shelf.now) file)) (λ text. Within (Netlist file) (BoundNetOf signature (by_ending file text))) c.in-Ok.text.items
          missed failed ⊥ ⊥ c.in-Ok.ensures.gives (λ m. absurd m) (λ f. absurd f) c.netlist_of.ensures.gives;
      taken = taken_for c.args.setting.now file c.in-Ok.text.items c.netlist_of.result c.netlist_of.ensures.gives c.netlist_of.ensures.bits;
    }
