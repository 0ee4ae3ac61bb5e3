use Rattle.std.proofs.Common.{◌≡◌, refl, get_or, Some, ℕ, List}
use Rattle.std.specs.Prelude.{slice_get}
use Rattle.std.proofs.lemmas.Option.{slice_get_within}
use Rattle.lists.specs.laws.ReadLaws.{got_at}
use Rattle.net_core.proofs.EvalLemmas.{right_step, all_right}
use Rattle.plain_runs.proofs.EvaluationLemmas.{with_levels}
use Rattle.plain_runs.proofs.SettledLemmas.{sources_step}
use Rattle.plain_runs.proofs.settle.set_gates.Goals as goal

pub set_gate-requires-clause-inside : goal.set_gate-requires-clause-inside
set_gate-requires-clause-inside c =
    let i : ℕ = c.loop-position.position-index in
    let p : ℕ = get_or c.args.order.now i 0 in
    let here : slice_get c.args.order.now i ≡ Some p = got_at c.args.order.now i p 0 c.loop-position-test.true refl in
    let g = c.requires.order.2.within p (i, here) in
    slice_get_within c.args.net.now.gates p g.0 g.1

pub set_gate-requires-clause-long : goal.set_gate-requires-clause-long
set_gate-requires-clause-long c = c.loop-position.invariant.right.long

pub loop-position-preserved : goal.loop-position-preserved
loop-position-preserved c =
    let order : List ℕ = c.args.order.now in
    let i : ℕ = c.loop-position.position-index in
    let p : ℕ = get_or order i 0 in
    let here : slice_get order i ≡ Some p = got_at order i p 0 c.loop-position-test.true refl in
    let sound = c.set_gate.ensures.sound in
    let levels = with_levels c.args.net.now order sound c.requires.order in
    let g = levels.2.within p (i, here) in
    let made = c.set_gate.ensures.set g.0 g.1 in
    record {
      right = right_step c.args.net.now levels.0 order i p g.0 c.loop-position.bits.items c.set_gate.new.bits.items sound.inside sound.one levels.1 levels.2 c.loop-position.invariant.right here g.1 made;
      sources = rw made (sources_step c.args.net.now c.args.bits.now.items c.loop-position.bits.items _ g.0 sound c.loop-position.invariant.sources (p, g.1));
    }

pub returns-clause-consistent : goal.returns-clause-consistent
returns-clause-consistent c = all_right c.args.net.now c.requires.order.0 c.args.order.now c.loop-position.position-index c.loop-position.bits.items c.requires.order.2 c.loop-position.invariant.right c.loop-position-test.false
