use Rattle.std.proofs.Common.{List}
use Rattle.outcome.specs.Outcome.{Within}
use Rattle.job_io.specs.Counts.{Rose}
use Rattle.net_blif.specs.Design.{ModelValue}
use Rattle.job_words.specs.declared.fault.Fault.TheVariants.{File, Netlist}
use Rattle.job_words.specs.Stop.{bytes_of}
use Rattle.job_words.proofs.StepLemmas.{after, stops}
use Rattle.job_input.specs.File.{Read}
use Rattle.job_input.specs.HierarchyIn.{HierarchyOf}
use Rattle.job_input.proofs.hierarchy.read_hierarchy.Goals as goal

pub returns-in-Err : goal.returns-in-Err
returns-in-Err g c =
    let signature = c.args.setting.now.signature in
    let file = c.args.file.now in
    let missed = Rose (g.S.Shelf.misses c.args.shelf.now) (g.S.Shelf.misses c.read_file.new.shelf) in
    let failed = Rose (g.S.Shelf.faults c.args.shelf.now) (g.S.Shelf.faults c.read_file.new.shelf) in
    record {
      held = c.read_file.ensures.held;
      never_fall = c.read_file.ensures.never_fall;
      gives = stops {Y = List ModelValue} bytes_of (λ design. design) c.in-Err.stop (Within File (Read (g.S.Shelf.held c.args.shelf.now) file)) (λ text. Within (Netlist file) (HierarchyOf signature text))
          missed failed missed failed (λ m. m) (λ f. f) c.in-Err.ensures.gives;
      top = tt;
    }

pub hierarchy_of-requires : goal.hierarchy_of-requires
hierarchy_of-requires g c = record { short = c.in-Ok.ensures.short; words = (c.requires.0, c.requires.2.words, c.requires.2.feeds) }

pub returns : goal.returns
returns g c =
    let signature = c.args.setting.now.signature in
    let file = c.args.file.now in
    let missed = Rose (g.S.Shelf.misses c.args.shelf.now) (g.S.Shelf.misses c.read_file.new.shelf) in
    let failed = Rose (g.S.Shelf.faults c.args.shelf.now) (g.S.Shelf.faults c.read_file.new.shelf) in
    record {
      held = c.read_file.ensures.held;
      never_fall = c.read_file.ensures.never_fall;
      gives = after {X = List ModelValue} (λ design. design) c.hierarchy_of.result (Within File (Read (g.S.Shelf.held c.args.shelf.now) file)) (λ text. Within (Netlist file) (HierarchyOf signature text)) c.in-Ok.text.items
          missed failed ⊥ ⊥ c.in-Ok.ensures.gives (λ m. absurd m) (λ f. absurd f) c.hierarchy_of.ensures.gives;
      top = c.hierarchy_of.ensures.top;
    }
