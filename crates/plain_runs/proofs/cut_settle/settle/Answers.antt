use Rattle.std.proofs.Common.{◌≡◌, sym, refl, subst, get_or, take, drop, length, Some, ℕ, List, Bool, ◌+◌, ◌-◌, ◌≤◌, arith}
use Rattle.std.specs.Prelude.{slice_get}
use Rattle.std.proofs.lemmas.Option.{slice_get_within}
use Rattle.lists.specs.laws.ReadLaws.{got_at}
use Rattle.stage_model.specs.private.Plain.{AreSettledFrom}
use Rattle.stage_model.proofs.MixLemmas.{of_taken}
use Rattle.plain_runs.proofs.EvaluationLemmas.{with_levels, settled_step, got_drop}
use Rattle.plain_runs.proofs.cut_settle.settle.Goals as goal

pub set_gate-requires-clause-inside : goal.set_gate-requires-clause-inside
set_gate-requires-clause-inside c =
    let order : List ℕ = c.args.order.now in
    let i : ℕ = c.loop-position.position-index in
    let rest : List ℕ = take (length order - c.args.from) (drop c.args.from order) in
    let p : ℕ = get_or rest i 0 in
    let here : slice_get order (c.args.from + i) ≡ Some p = got_drop order c.args.from i p (of_taken (length order - c.args.from) (drop c.args.from order) i p (got_at rest i p 0 c.loop-position-test.true refl)) in
    let g = c.requires.order.2.within p (c.args.from + i, here) in
    slice_get_within c.args.net.now.gates p g.0 g.1

pub loop-position-preserved : goal.loop-position-preserved
loop-position-preserved c =
    let order : List ℕ = c.args.order.now in
    let i : ℕ = c.loop-position.position-index in
    let rest : List ℕ = take (length order - c.args.from) (drop c.args.from order) in
    let p : ℕ = get_or rest i 0 in
    let here : slice_get order (c.args.from + i) ≡ Some p = got_drop order c.args.from i p (of_taken (length order - c.args.from) (drop c.args.from order) i p (got_at rest i p 0 c.loop-position-test.true refl)) in
    let g = c.requires.order.2.within p (c.args.from + i, here) in
    let made = c.set_gate.ensures.set g.0 g.1 in
    let sound = c.set_gate.ensures.sound in
    let levels = with_levels c.args.net.now order sound c.requires.order in
    let next : (c.args.from + i) + 1 ≡ c.args.from + (i + 1) = omega arith in
    let low : c.args.from ≤ c.args.from + i = omega arith in
    let start : List Bool = c.args.bits.now.items in
    let step = settled_step c.args.net.now order c.args.from start sound levels.0 levels.1 levels.2 (c.args.from + i) p g.0 c.loop-position.bits.items here g.1 low c.loop-position.invariant in
    let P : ℕ → Type 0 = λ k. AreSettledFrom c.args.net.now order c.args.from k start c.set_gate.new.bits.items in
    let Q : List Bool → Type 0 = λ bits. AreSettledFrom c.args.net.now order c.args.from ((c.args.from + i) + 1) start bits in
    subst P next (subst Q (sym made) step)
