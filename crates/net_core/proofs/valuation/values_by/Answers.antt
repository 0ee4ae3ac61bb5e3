use Rattle.std.proofs.Common.{◌≡◌, refl, get_or, Some, ℕ}
use Rattle.std.specs.Prelude.{slice_get}
use Rattle.std.proofs.lemmas.Option.{slice_get_within}
use Rattle.lists.specs.laws.ReadLaws.{got_at}
use Rattle.net_core.proofs.EvalLemmas.{right_step, values_step, all_right}
use Rattle.net_core.proofs.valuation.values_by.Goals as goal

pub set_gate-requires-clause-inside : goal.set_gate-requires-clause-inside
set_gate-requires-clause-inside c =
    let i : ℕ = c.loop-position.position-index in
    let p : ℕ = get_or c.args.order.now i 0 in
    let here : slice_get c.args.order.now i ≡ Some p = got_at c.args.order.now i p 0 c.loop-position-test.true refl in
    let g = c.requires.order.2.within p (i, here) in
    slice_get_within c.args.net.now.gates p g.0 g.1

pub loop-position-preserved : goal.loop-position-preserved
loop-position-preserved c =
    let i : ℕ = c.loop-position.position-index in
    let p : ℕ = get_or c.args.order.now i 0 in
    let here : slice_get c.args.order.now i ≡ Some p = got_at c.args.order.now i p 0 c.loop-position-test.true refl in
    let g = c.requires.order.2.within p (i, here) in
    let made = c.set_gate.ensures g.0 g.1 in
    record {
      right = right_step c.args.net.now c.requires.order.0 c.args.order.now i p g.0 c.loop-position.bits.items c.set_gate.new.bits.items c.in_ok-bits.ensures.inside c.requires.one c.requires.order.1 c.requires.order.2 c.loop-position.invariant.right here g.1 made;
      values = rw made (values_step c.args.net.now c.args.values.now c.loop-position.bits.items _ g.0 c.in_ok-bits.ensures.inside c.requires.one c.loop-position.invariant.values (p, g.1));
    }

pub returns : goal.returns
returns c = (
  all_right c.args.net.now c.requires.order.0 c.args.order.now c.loop-position.position-index c.loop-position.bits.items c.requires.order.2 c.loop-position.invariant.right c.loop-position-test.false,
  c.loop-position.invariant.values,
)
