use Rattle.std.proofs.Common.{◌∙◌, arith}
use Rattle.job_io.specs.Counts.{Rose}
use Rattle.net_words.specs.Binding.{BoundNet}
use Rattle.job_words.proofs.StepLemmas.{after, stops}
use Rattle.job_input.specs.NetlistOf.{NetlistIn}
use Rattle.job_input.specs.Setting.{setting_value}
use Rattle.job_input.proofs.RoseLemmas.{rose_earlier}
use Rattle.answer_core.specs.Reply.{reply_of}
use Rattle.answer_polynomials.specs.Same.{SameBeside}
use Rattle.answer_polynomials.proofs.same.answer.Goals as goal

pub beside-requires-clause-taken : goal.beside-requires-clause-taken
beside-requires-clause-taken g c = c.in-Ok.ensures.taken (g.F.Ring.degree c.args.field.now) (g.F.Ring.product c.args.field.now) c.requires

pub returns-in-Ok : goal.returns-in-Ok
returns-in-Ok g c =
    let held = g.S.Shelf.held c.args.shelf.now in
    let setting = setting_value (g.F.Ring.degree c.args.field.now) (g.F.Ring.product c.args.field.now) c.args.setting.now in
    let words = c.args.words.now in
    let m0 = g.S.Shelf.misses c.args.shelf.now in
    let m1 = g.S.Shelf.misses c.read_netlist.new.shelf in
    let m2 = g.S.Shelf.misses c.beside.new.shelf in
    let f0 = g.S.Shelf.faults c.args.shelf.now in
    let f1 = g.S.Shelf.faults c.read_netlist.new.shelf in
    let f2 = g.S.Shelf.faults c.beside.new.shelf in
    record {
      held = c.beside.ensures.held ∙ c.read_netlist.ensures.held;
      never_fall = (omega (arith, c.read_netlist.ensures.never_fall.0, c.beside.ensures.never_fall.0), omega (arith, c.read_netlist.ensures.never_fall.1, c.beside.ensures.never_fall.1));
      gives = after reply_of c.beside.result (NetlistIn held c.args.setting.now.signature words.net.now) (λ netlist. SameBeside held setting words.net.now netlist words.other.now words.terms words.cycles words.simplify) c.in-Ok.netlist
          (Rose m0 m2) (Rose f0 f2) (Rose m1 m2) (Rose f1 f2) c.in-Ok.ensures.gives
          (rose_earlier m0 m1 m2 c.read_netlist.ensures.never_fall.1) (rose_earlier f0 f1 f2 c.read_netlist.ensures.never_fall.0) (rw c.read_netlist.ensures.held at c.beside.ensures.gives);
    }

pub returns-in-Err : goal.returns-in-Err
returns-in-Err g c =
    let held = g.S.Shelf.held c.args.shelf.now in
    let setting = setting_value (g.F.Ring.degree c.args.field.now) (g.F.Ring.product c.args.field.now) c.args.setting.now in
    let words = c.args.words.now in
    let missed = Rose (g.S.Shelf.misses c.args.shelf.now) (g.S.Shelf.misses c.read_netlist.new.shelf) in
    let failed = Rose (g.S.Shelf.faults c.args.shelf.now) (g.S.Shelf.faults c.read_netlist.new.shelf) in
    record {
      held = c.read_netlist.ensures.held;
      never_fall = c.read_netlist.ensures.never_fall;
      gives = stops {X = BoundNet} (λ netlist. netlist) reply_of c.in-Err.stop (NetlistIn held c.args.setting.now.signature words.net.now) (λ netlist. SameBeside held setting words.net.now netlist words.other.now words.terms words.cycles words.simplify)
          missed failed missed failed (λ m. m) (λ f. f) c.in-Err.ensures.gives;
    }
