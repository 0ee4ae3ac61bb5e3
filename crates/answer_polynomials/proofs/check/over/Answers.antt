use Rattle.std.proofs.Common.{subst, Ok, Err}
use Rattle.job_io.specs.Counts.{Rose}
use Rattle.poly_mixed.specs.Labels.{Labelling}
use Rattle.spec_expand.specs.Specification.{SpecTerms}
use Rattle.job_words.specs.Stop.{GivesBy}
use Rattle.job_words.proofs.StepLemmas.{after, stops}
use Rattle.job_input.specs.Labelling.{labels_of}
use Rattle.job_input.specs.Setting.{setting_value}
use Rattle.job_input.specs.SpecificationIn.{SpecificationIn}
use Rattle.answer_core.specs.Reply.{reply_of}
use Rattle.answer_polynomials.specs.Check.{CheckUnrolled}
use Rattle.answer_polynomials.proofs.check.over.Goals as goal

pub returns-in-Ok : goal.returns-in-Ok
returns-in-Ok g c =
    let degree = g.F.Ring.degree c.args.field.now in
    let mul = g.F.Ring.product c.args.field.now in
    let held = g.S.Shelf.held c.args.shelf.now in
    let setting = setting_value degree mul c.args.setting.now in
    let missed = Rose (g.S.Shelf.misses c.args.shelf.now) (g.S.Shelf.misses c.read_specification.new.shelf) in
    let failed = Rose (g.S.Shelf.faults c.args.shelf.now) (g.S.Shelf.faults c.read_specification.new.shelf) in
    let P : Labelling → Type 0 = λ l. SpecificationIn held l degree mul c.args.words.now.other.now (Ok c.in-Ok.spec) in
    record {
      held = c.read_specification.ensures.held;
      never_fall = c.read_specification.ensures.never_fall;
      gives = after reply_of c.unrolled.result (SpecificationIn held (labels_of degree c.args.setting.now.signature.words) degree mul c.args.words.now.other.now) (λ spec. CheckUnrolled setting c.args.words.now.net.now c.args.netlist spec c.args.words.now.terms c.args.words.now.cycles c.args.words.now.simplify) c.in-Ok.spec
          missed failed ⊥ ⊥ (subst P c.in_ok-labels.ensures c.in-Ok.ensures.gives) (λ m. absurd m) (λ f. absurd f) c.unrolled.ensures;
    }

pub returns-in-Err : goal.returns-in-Err
returns-in-Err g c =
    let degree = g.F.Ring.degree c.args.field.now in
    let mul = g.F.Ring.product c.args.field.now in
    let held = g.S.Shelf.held c.args.shelf.now in
    let setting = setting_value degree mul c.args.setting.now in
    let missed = Rose (g.S.Shelf.misses c.args.shelf.now) (g.S.Shelf.misses c.read_specification.new.shelf) in
    let failed = Rose (g.S.Shelf.faults c.args.shelf.now) (g.S.Shelf.faults c.read_specification.new.shelf) in
    let P : Labelling → Type 0 = λ l. GivesBy {X = SpecTerms} (λ spec. spec) (Err c.in-Err.stop) (SpecificationIn held l degree mul c.args.words.now.other.now) missed failed in
    record {
      held = c.read_specification.ensures.held;
      never_fall = c.read_specification.ensures.never_fall;
      gives = stops {X = SpecTerms} (λ spec. spec) reply_of c.in-Err.stop (SpecificationIn held (labels_of degree c.args.setting.now.signature.words) degree mul c.args.words.now.other.now) (λ spec. CheckUnrolled setting c.args.words.now.net.now c.args.netlist spec c.args.words.now.terms c.args.words.now.cycles c.args.words.now.simplify)
          missed failed missed failed (λ m. m) (λ f. f) (subst P c.in_ok-labels.ensures c.in-Err.ensures.gives);
    }
