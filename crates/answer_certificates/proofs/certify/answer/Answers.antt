use Rattle.job_io.specs.Counts.{Rose}
use Rattle.net_words.specs.Binding.{BoundNet}
use Rattle.job_words.proofs.StepLemmas.{after, stops}
use Rattle.job_input.specs.CircuitOf.{CircuitIn}
use Rattle.job_input.specs.Setting.{setting_value}
use Rattle.answer_core.specs.Reply.{reply_of}
use Rattle.answer_certificates.specs.Certify.{CertifyReply}
use Rattle.answer_certificates.proofs.certify.answer.Goals as goal

pub reply-requires-clause-taken : goal.reply-requires-clause-taken
reply-requires-clause-taken g c = c.in-Ok.ensures.taken (g.F.Ring.degree c.args.field.now) (g.F.Ring.product c.args.field.now) c.requires

pub returns-in-Ok : goal.returns-in-Ok
returns-in-Ok g c =
    let setting = setting_value (g.F.Ring.degree c.args.field.now) (g.F.Ring.product c.args.field.now) c.args.setting.now in
    let words = c.args.words.now in
    let missed = Rose (g.S.Shelf.misses c.args.shelf.now) (g.S.Shelf.misses c.read_circuit.new.shelf) in
    let failed = Rose (g.S.Shelf.faults c.args.shelf.now) (g.S.Shelf.faults c.read_circuit.new.shelf) in
    record {
      held = c.read_circuit.ensures.held;
      never_fall = c.read_circuit.ensures.never_fall;
      gives = after reply_of c.reply.result (CircuitIn (g.S.Shelf.held c.args.shelf.now) c.args.setting.now.signature words.net.now words.cycles) (λ circuit. CertifyReply setting circuit words.terms) c.in-Ok.circuit
          missed failed ⊥ ⊥ c.in-Ok.ensures.gives (λ m. absurd m) (λ f. absurd f) c.reply.ensures;
    }

pub returns-in-Err : goal.returns-in-Err
returns-in-Err g c =
    let setting = setting_value (g.F.Ring.degree c.args.field.now) (g.F.Ring.product c.args.field.now) c.args.setting.now in
    let words = c.args.words.now in
    let missed = Rose (g.S.Shelf.misses c.args.shelf.now) (g.S.Shelf.misses c.read_circuit.new.shelf) in
    let failed = Rose (g.S.Shelf.faults c.args.shelf.now) (g.S.Shelf.faults c.read_circuit.new.shelf) in
    record {
      held = c.read_circuit.ensures.held;
      never_fall = c.read_circuit.ensures.never_fall;
      gives = stops {X = BoundNet} (λ circuit. circuit) reply_of c.in-Err.stop (CircuitIn (g.S.Shelf.held c.args.shelf.now) c.args.setting.now.signature words.net.now words.cycles) (λ circuit. CertifyReply setting circuit words.terms)
          missed failed missed failed (λ m. m) (λ f. f) c.in-Err.ensures.gives;
    }
