use Rattle.job_io.specs.Counts.{Rose}
use Rattle.job_words.proofs.StepLemmas.{after}
use Rattle.job_input.specs.HierarchyIn.{HierarchyIn}
use Rattle.job_input.specs.Setting.{setting_value}
use Rattle.answer_core.specs.Reply.{reply_of}
use Rattle.answer_composition.specs.Compose.{ComposeOver}
use Rattle.answer_composition.proofs.compose.answer.Goals as goal

pub returns-in-Ok-clause-gives : goal.returns-in-Ok-clause-gives
returns-in-Ok-clause-gives g c =
    let setting = setting_value (g.F.Ring.degree c.args.field.now) (g.F.Ring.product c.args.field.now) c.args.setting.now in
    let missed = Rose (g.S.Shelf.misses c.args.shelf.now) (g.S.Shelf.misses c.read_hierarchy.new.shelf) in
    let failed = Rose (g.S.Shelf.faults c.args.shelf.now) (g.S.Shelf.faults c.read_hierarchy.new.shelf) in
    after reply_of c.over.result (HierarchyIn (g.S.Shelf.held c.args.shelf.now) c.args.setting.now.signature c.args.words.now.net.now) (λ design. ComposeOver setting design c.args.words.now.terms) c.in-Ok.design
    missed failed ⊥ ⊥ c.in-Ok.ensures.gives (λ m. absurd m) (λ f. absurd f) c.over.ensures
