use Rattle.std.proofs.Common.{◌*◌, ◌^◌, ℕ, List, subst}
use Rattle.outcome.specs.Outcome.{Within}
use Rattle.job_io.specs.Counts.{Rose}
use Rattle.job_words.specs.declared.fault.Fault.TheVariants.{File, Table}
use Rattle.job_words.specs.Stop.{bytes_of, GivesBy}
use Rattle.job_words.proofs.StepLemmas.{after, stops}
use Rattle.job_input.specs.File.{Read}
use Rattle.job_input.specs.TableIn.{TableOf}
use Rattle.job_input.proofs.table_file.read_table_file.Goals as goal

pub returns-in-Err : goal.returns-in-Err
returns-in-Err g c =
    let missed = Rose (g.S.Shelf.misses c.args.shelf.now) (g.S.Shelf.misses c.read_file.new.shelf) in
    let failed = Rose (g.S.Shelf.faults c.args.shelf.now) (g.S.Shelf.faults c.read_file.new.shelf) in
    record {
      held = c.read_file.ensures.held;
      never_fall = c.read_file.ensures.never_fall;
      gives = stops bytes_of bytes_of c.in-Err.stop (Within File (Read (g.S.Shelf.held c.args.shelf.now) c.args.file.now)) (λ text. Within Table (TableOf c.args.k (2 ^ (c.args.k * c.args.words)) text))
          missed failed missed failed (λ m. m) (λ f. f) c.in-Err.ensures.gives;
    }

pub returns : goal.returns
returns g c =
    let n = 2 ^ (c.args.k * c.args.words) in
    let missed = Rose (g.S.Shelf.misses c.args.shelf.now) (g.S.Shelf.misses c.read_file.new.shelf) in
    let failed = Rose (g.S.Shelf.faults c.args.shelf.now) (g.S.Shelf.faults c.read_file.new.shelf) in
    let P : List ℕ → Type 0 = λ text. GivesBy bytes_of c.table_of.result (Within Table (TableOf c.args.k n text)) ⊥ ⊥ in
    record {
      held = c.read_file.ensures.held;
      never_fall = c.read_file.ensures.never_fall;
      gives = after bytes_of c.table_of.result (Within File (Read (g.S.Shelf.held c.args.shelf.now) c.args.file.now)) (λ text. Within Table (TableOf c.args.k n text)) c.in-Ok.text.items
          missed failed ⊥ ⊥ c.in-Ok.ensures.gives (λ m. absurd m) (λ f. absurd f) (subst P c.deref.ensures.value c.table_of.ensures);
    }
