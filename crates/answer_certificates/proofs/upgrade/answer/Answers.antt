use Rattle.job_io.specs.Counts.{Rose}
use Rattle.job_words.proofs.StepLemmas.{after, stops}
use Rattle.job_input.specs.Setting.{setting_value}
use Rattle.answer_certificates.specs.Certificates.{CertifiedIn}
use Rattle.answer_core.specs.Reply.{reply_of}
use Rattle.answer_certificates.specs.Upgrade.{UpgradeReply}
use Rattle.answer_certificates.specs.declared.certificates.Certified.{Certified}
use Rattle.answer_certificates.specs.private.CertificateStop.{certified_of}
use Rattle.answer_certificates.proofs.upgrade.answer.Goals as goal

pub reply-requires-clause-taken : goal.reply-requires-clause-taken
reply-requires-clause-taken g c = c.in-Ok.ensures.taken (g.F.Ring.degree c.args.field.now) (g.F.Ring.product c.args.field.now) c.requires

pub returns-in-Ok : goal.returns-in-Ok
returns-in-Ok g c =
    let setting = setting_value (g.F.Ring.degree c.args.field.now) (g.F.Ring.product c.args.field.now) c.args.setting.now in
    let words = c.args.words.now in
    let missed = Rose (g.S.Shelf.misses c.args.shelf.now) (g.S.Shelf.misses c.read_certified.new.shelf) in
    let failed = Rose (g.S.Shelf.faults c.args.shelf.now) (g.S.Shelf.faults c.read_certified.new.shelf) in
    record {
      held = c.read_certified.ensures.held;
      never_fall = c.read_certified.ensures.never_fall;
      gives = after reply_of c.reply.result (CertifiedIn (g.S.Shelf.held c.args.shelf.now) c.args.setting.now.signature words.net.now words.other.now words.cycles) (λ certified. UpgradeReply setting certified) (certified_of c.in-Ok.certified)
          missed failed ⊥ ⊥ c.in-Ok.ensures.gives (λ m. absurd m) (λ f. absurd f) c.reply.ensures;
    }

pub returns-in-Err : goal.returns-in-Err
returns-in-Err g c =
    let setting = setting_value (g.F.Ring.degree c.args.field.now) (g.F.Ring.product c.args.field.now) c.args.setting.now in
    let words = c.args.words.now in
    let missed = Rose (g.S.Shelf.misses c.args.shelf.now) (g.S.Shelf.misses c.read_certified.new.shelf) in
    let failed = Rose (g.S.Shelf.faults c.args.shelf.now) (g.S.Shelf.faults c.read_certified.new.shelf) in
    record {
      held = c.read_certified.ensures.held;
      never_fall = c.read_certified.ensures.never_fall;
      gives = stops {X = Certified} certified_of reply_of c.in-Err.stop (CertifiedIn (g.S.Shelf.held c.args.shelf.now) c.args.setting.now.signature words.net.now words.other.now words.cycles) (λ certified. UpgradeReply setting certified)
          missed failed missed failed (λ m. m) (λ f. f) c.in-Err.ensures.gives;
    }
