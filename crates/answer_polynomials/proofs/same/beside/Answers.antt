use Rattle.job_io.specs.Counts.{Rose}
use Rattle.net_words.specs.Binding.{BoundNet}
use Rattle.job_words.proofs.StepLemmas.{after, stops}
use Rattle.job_input.specs.NetlistOf.{NetlistIn}
use Rattle.job_input.specs.Setting.{setting_value}
use Rattle.answer_core.specs.Reply.{reply_of}
use Rattle.answer_polynomials.specs.Same.{SameUnrolled}
use Rattle.answer_polynomials.proofs.same.beside.Goals as goal

pub unrolled-requires-clause-second : goal.unrolled-requires-clause-second
unrolled-requires-clause-second g c = c.in-Ok.ensures.taken (g.F.Ring.degree c.args.field.now) (g.F.Ring.product c.args.field.now) c.requires.ready

pub returns-in-Ok : goal.returns-in-Ok
returns-in-Ok g c =
    let setting = setting_value (g.F.Ring.degree c.args.field.now) (g.F.Ring.product c.args.field.now) c.args.setting.now in
    let missed = Rose (g.S.Shelf.misses c.args.shelf.now) (g.S.Shelf.misses c.read_netlist.new.shelf) in
    let failed = Rose (g.S.Shelf.faults c.args.shelf.now) (g.S.Shelf.faults c.read_netlist.new.shelf) in
    record {
      held = c.read_netlist.ensures.held;
      never_fall = c.read_netlist.ensures.never_fall;
      gives = after reply_of c.unrolled.result (NetlistIn (g.S.Shelf.held c.args.shelf.now) c.args.setting.now.signature c.args.words.now.other.now) (λ second. SameUnrolled setting c.args.words.now.net.now c.args.netlist c.args.words.now.other.now second c.args.words.now.terms c.args.words.now.cycles c.args.words.now.simplify) c.in-Ok.second
          missed failed ⊥ ⊥ c.in-Ok.ensures.gives (λ m. absurd m) (λ f. absurd f) c.unrolled.ensures;
    }

pub returns-in-Err : goal.returns-in-Err
returns-in-Err g c =
    let setting = setting_value (g.F.Ring.degree c.args.field.now) (g.F.Ring.product c.args.field.now) c.args.setting.now in
    let missed = Rose (g.S.Shelf.misses c.args.shelf.now) (g.S.Shelf.misses c.read_netlist.new.shelf) in
    let failed = Rose (g.S.Shelf.faults c.args.shelf.now) (g.S.Shelf.faults c.read_netlist.new.shelf) in
    record {
      held = c.read_netlist.ensures.held;
      never_fall = c.read_netlist.ensures.never_fall;
      gives = stops {X = BoundNet} (λ netlist. netlist) reply_of c.in-Err.stop (NetlistIn (g.S.Shelf.held c.args.shelf.now) c.args.setting.now.signature c.args.words.now.other.now) (λ second. SameUnrolled setting c.args.words.now.net.now c.args.netlist c.args.words.now.other.now second c.args.words.now.terms c.args.words.now.cycles c.args.words.now.simplify)
          missed failed missed failed (λ m. m) (λ f. f) c.in-Err.ensures.gives;
    }
