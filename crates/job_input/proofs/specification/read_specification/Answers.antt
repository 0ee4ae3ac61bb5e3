use Rattle.std.proofs.Common.{ℕ, List, subst}
use Rattle.outcome.specs.Outcome.{Within}
use Rattle.job_io.specs.Counts.{Rose}
use Rattle.spec_expand.specs.Specification.{SpecTerms}
use Rattle.job_words.specs.declared.fault.Fault.TheVariants.{File, Specification}
use Rattle.job_words.specs.Stop.{bytes_of, GivesBy}
use Rattle.job_words.proofs.StepLemmas.{after, stops}
use Rattle.job_input.specs.File.{Read}
use Rattle.job_input.specs.SpecificationIn.{SpecificationOf}
use Rattle.job_input.proofs.specification.read_specification.Goals as goal

pub returns-in-Err : goal.returns-in-Err
returns-in-Err g c =
    let degree = g.F.Ring.degree c.args.field.now in
    let mul = g.F.Ring.product c.args.field.now in
    let missed = Rose (g.S.Shelf.misses c.args.shelf.now) (g.S.Shelf.misses c.read_file.new.shelf) in
    let failed = Rose (g.S.Shelf.faults c.args.shelf.now) (g.S.Shelf.faults c.read_file.new.shelf) in
    record {
      held = c.read_file.ensures.held;
      never_fall = c.read_file.ensures.never_fall;
      gives = stops {Y = SpecTerms} bytes_of (λ spec. spec) c.in-Err.stop (Within File (Read (g.S.Shelf.held c.args.shelf.now) c.args.file.now)) (λ text. Within Specification (SpecificationOf c.args.labels.now degree mul text))
          missed failed missed failed (λ m. m) (λ f. f) c.in-Err.ensures.gives;
      over = tt;
    }

pub returns : goal.returns
returns g c =
    let degree = g.F.Ring.degree c.args.field.now in
    let mul = g.F.Ring.product c.args.field.now in
    let labels = c.args.labels.now in
    let missed = Rose (g.S.Shelf.misses c.args.shelf.now) (g.S.Shelf.misses c.read_file.new.shelf) in
    let failed = Rose (g.S.Shelf.faults c.args.shelf.now) (g.S.Shelf.faults c.read_file.new.shelf) in
    let P : List ℕ → Type 0 = λ text. GivesBy {X = SpecTerms} (λ spec. spec) c.specification_of.result (Within Specification (SpecificationOf labels degree mul text)) ⊥ ⊥ in
    record {
      held = c.read_file.ensures.held;
      never_fall = c.read_file.ensures.never_fall;
      gives = after {X = SpecTerms} (λ spec. spec) c.specification_of.result (Within File (Read (g.S.Shelf.held c.args.shelf.now) c.args.file.now)) (λ text. Within Specification (SpecificationOf labels degree mul text)) c.in-Ok.text.items
          missed failed ⊥ ⊥ c.in-Ok.ensures.gives (λ m. absurd m) (λ f. absurd f) (subst P c.deref.ensures.value c.specification_of.ensures.gives);
      over = c.specification_of.ensures.over;
    }
