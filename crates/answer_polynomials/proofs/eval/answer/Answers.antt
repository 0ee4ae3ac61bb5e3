use Rattle.std.proofs.Common.{map, string_bytes}
use Rattle.job_io.specs.Counts.{Rose}
use Rattle.net_words.specs.Binding.{BoundNet}
use Rattle.job_words.proofs.StepLemmas.{after, stops}
use Rattle.job_input.specs.NetlistOf.{NetlistIn}
use Rattle.job_input.specs.Setting.{setting_value}
use Rattle.answer_core.specs.Reply.{reply_of}
use Rattle.answer_polynomials.specs.Eval.{EvalOver}
use Rattle.answer_polynomials.proofs.eval.answer.Goals as goal

pub over-requires-clause-taken : goal.over-requires-clause-taken
over-requires-clause-taken g c = c.in-Ok.ensures.taken (g.F.Ring.degree c.args.field.now) (g.F.Ring.product c.args.field.now) c.requires

pub returns-in-Ok : goal.returns-in-Ok
returns-in-Ok g c =
    let setting = setting_value (g.F.Ring.degree c.args.field.now) (g.F.Ring.product c.args.field.now) c.args.setting.now in
    let words = c.args.words.now in
    let missed = Rose (g.S.Shelf.misses c.args.shelf.now) (g.S.Shelf.misses c.read_netlist.new.shelf) in
    let failed = Rose (g.S.Shelf.faults c.args.shelf.now) (g.S.Shelf.faults c.read_netlist.new.shelf) in
    record {
      held = c.read_netlist.ensures.held;
      never_fall = c.read_netlist.ensures.never_fall;
      gives = after reply_of c.over.result (NetlistIn (g.S.Shelf.held c.args.shelf.now) c.args.setting.now.signature words.net.now) (λ netlist. EvalOver setting words.net.now netlist (map string_bytes words.values.now) words.cycles) c.in-Ok.netlist
          missed failed ⊥ ⊥ c.in-Ok.ensures.gives (λ m. absurd m) (λ f. absurd f) c.over.ensures;
    }

pub returns-in-Err : goal.returns-in-Err
returns-in-Err g c =
    let setting = setting_value (g.F.Ring.degree c.args.field.now) (g.F.Ring.product c.args.field.now) c.args.setting.now in
    let words = c.args.words.now in
    let missed = Rose (g.S.Shelf.misses c.args.shelf.now) (g.S.Shelf.misses c.read_netlist.new.shelf) in
    let failed = Rose (g.S.Shelf.faults c.args.shelf.now) (g.S.Shelf.faults c.read_netlist.new.shelf) in
    record {
      held = c.read_netlist.ensures.held;
      never_fall = c.read_netlist.ensures.never_fall;
      gives = stops {X = BoundNet} (λ netlist. netlist) reply_of c.in-Err.stop (NetlistIn (g.S.Shelf.held c.args.shelf.now) c.args.setting.now.signature words.net.now) (λ netlist. EvalOver setting words.net.now netlist (map string_bytes words.values.now) words.cycles)
          missed failed missed failed (λ m. m) (λ f. f) c.in-Err.ensures.gives;
    }
