use Rattle.std.proofs.Common.{◌≡◌, subst, inl, refl, true, false, length, rules}
use Rattle.job_io.specs.Counts.{Rose}
use Rattle.job_words.proofs.StepLemmas.{after}
use Rattle.lift_table.specs.Small.{IsSmall}
use Rattle.poly_mixed.specs.Labels.{Labelling}
use Rattle.job_input.specs.Setting.{setting_value}
use Rattle.answer_core.specs.Reply.{reply_of}
use Rattle.answer_tables.specs.Lift.{SmallEnough, LiftOver}
use Rattle.answer_tables.proofs.lift.answer.Goals as goal

pub over-requires-clause-small : goal.over-requires-clause-small
over-requires-clause-small g c =
    let on : c.is_small_setting.result ≡ true = search rules in
    c.is_small_setting.ensures.0 on

pub returns-then-not-is_small_setting-clause-gives : goal.returns-then-not-is_small_setting-clause-gives
returns-then-not-is_small_setting-clause-gives g c =
    let degree = g.F.Ring.degree c.args.field.now in
    let off : c.is_small_setting.result ≡ false = search rules in
    let P : Labelling → Type 0 = λ l. IsSmall degree (length l.words) → ⊥ in
    (inl (refl, subst P c.in_ok-labels.ensures (λ small. let yes = c.is_small_setting.ensures.1 small in absurd (cc))), λ m. absurd m)

pub returns-clause-gives : goal.returns-clause-gives
returns-clause-gives g c =
    let degree = g.F.Ring.degree c.args.field.now in
    let setting = setting_value degree (g.F.Ring.product c.args.field.now) c.args.setting.now in
    let held = g.S.Shelf.held c.args.shelf.now in
    let missed = Rose (g.S.Shelf.misses c.args.shelf.now) (g.S.Shelf.misses c.over.new.shelf) in
    let failed = Rose (g.S.Shelf.faults c.args.shelf.now) (g.S.Shelf.faults c.over.new.shelf) in
    let on : c.is_small_setting.result ≡ true = search rules in
    let P : Labelling → Type 0 = λ l. IsSmall degree (length l.words) in
    let small = subst P c.in_ok-labels.ensures (c.is_small_setting.ensures.0 on) in
    after reply_of c.over.result (SmallEnough setting) (λ u. LiftOver held setting c.args.file.now) tt missed failed missed failed small (λ m. m) (λ f. f) c.over.ensures.gives
