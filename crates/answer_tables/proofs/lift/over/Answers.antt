use Rattle.std.proofs.Common.{◌∙◌, ◌*◌, ◌^◌, ap, sym, subst, ℕ, List, Vec, length, Ok, Err}
use Rattle.std.specs.declared.alloc.Global.{Global}
use Rattle.job_io.specs.Counts.{Rose}
use Rattle.gf_field.specs.Element.{AreElements}
use Rattle.poly_mixed.specs.Labels.{Labelling}
use Rattle.job_words.specs.Stop.{GivesBy, bytes_of}
use Rattle.job_words.proofs.StepLemmas.{after, stops}
use Rattle.job_input.specs.Setting.{setting_value}
use Rattle.job_input.specs.TableIn.{TableIn}
use Rattle.answer_core.specs.Reply.{reply_of}
use Rattle.answer_tables.specs.Lift.{LiftReply, table_words}
use Rattle.answer_tables.proofs.TableLemmas.{read_elements}
use Rattle.answer_tables.proofs.lift.over.Goals as goal

pub read_table_file-requires : goal.read_table_file-requires
read_table_file-requires g c = rw (c.k.ensures, c.words.ensures.value) c.requires.small

pub reply-requires-clause-long : goal.reply-requires-clause-long
reply-requires-clause-long g c =
    let is = (rw (c.k.ensures, c.words.ensures.value) at c.in-Ok.ensures.gives).2 in
    ap (λ (xs : List ℕ). length xs) c.deref.ensures.value ∙ is.long

pub reply-requires-clause-elements : goal.reply-requires-clause-elements
reply-requires-clause-elements g c =
    let degree = g.F.Ring.degree c.args.field.now in
    let is = (rw (c.k.ensures, c.words.ensures.value) at c.in-Ok.ensures.gives).2 in
    let P : List ℕ → Type 0 = λ xs. AreElements degree xs in
    subst P (sym c.deref.ensures.value) (read_elements degree _ _ c.in-Ok.table.items is)

pub returns-in-Ok-clause-gives : goal.returns-in-Ok-clause-gives
returns-in-Ok-clause-gives g c =
    let degree = g.F.Ring.degree c.args.field.now in
    let setting = setting_value degree (g.F.Ring.product c.args.field.now) c.args.setting.now in
    let held = g.S.Shelf.held c.args.shelf.now in
    let missed = Rose (g.S.Shelf.misses c.args.shelf.now) (g.S.Shelf.misses c.read_table_file.new.shelf) in
    let failed = Rose (g.S.Shelf.faults c.args.shelf.now) (g.S.Shelf.faults c.read_table_file.new.shelf) in
    let P : List ℕ → Type 0 = λ xs. GivesBy reply_of c.reply.result (LiftReply setting xs) ⊥ ⊥ in
    let taken = rw (c.k.ensures, c.words.ensures.value) at c.in-Ok.ensures.gives in
    let labels = c.requires.labels in
    let Q : ℕ → Type 0 = λ m. TableIn held degree (2 ^ (degree * m)) c.args.file.now (Ok c.in-Ok.table.items) in
    after reply_of c.reply.result (TableIn held degree (2 ^ (degree * table_words setting)) c.args.file.now) (λ table. LiftReply setting table) c.in-Ok.table.items
    missed failed ⊥ ⊥ (subst Q (ap (λ (l : Labelling). length l.words) labels) taken) (λ m. absurd m) (λ f. absurd f) (subst P c.deref.ensures.value c.reply.ensures)

pub returns-in-Err-clause-gives : goal.returns-in-Err-clause-gives
returns-in-Err-clause-gives g c =
    let degree = g.F.Ring.degree c.args.field.now in
    let setting = setting_value degree (g.F.Ring.product c.args.field.now) c.args.setting.now in
    let held = g.S.Shelf.held c.args.shelf.now in
    let missed = Rose (g.S.Shelf.misses c.args.shelf.now) (g.S.Shelf.misses c.read_table_file.new.shelf) in
    let failed = Rose (g.S.Shelf.faults c.args.shelf.now) (g.S.Shelf.faults c.read_table_file.new.shelf) in
    let given = rw (c.k.ensures, c.words.ensures.value) at c.in-Err.ensures.gives in
    let Q : ℕ → Type 0 = λ m. GivesBy {X = Vec ℕ Global} bytes_of (Err c.in-Err.stop) (TableIn held degree (2 ^ (degree * m)) c.args.file.now) missed failed in
    stops {X = Vec ℕ Global} bytes_of reply_of c.in-Err.stop (TableIn held degree (2 ^ (degree * table_words setting)) c.args.file.now) (λ table. LiftReply setting table)
    missed failed missed failed (λ m. m) (λ f. f) (subst Q (ap (λ (l : Labelling). length l.words) c.requires.labels) given)
