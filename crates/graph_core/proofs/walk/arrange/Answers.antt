use Rattle.std.proofs.Common.{◌≡◌, refl, arith, rules, below_more, Some, get_or, ℕ, ◌≤◌, length}
use Rattle.std.specs.Prelude.{slice_get}
use Rattle.std.proofs.lemmas.Option.{slice_get_within}
use Rattle.lists.specs.laws.ReadLaws.{got_at}
use Rattle.graph_core.specs.Fault.{IsCycleFault}
use Rattle.graph_core.specs.Walking.{IsMet}
use Rattle.graph_core.proofs.CycleLemmas.{arranged, earlier_grounded}
use Rattle.graph_core.proofs.walk.arrange.Goals as goal

pub returns-in_err-visit_root-clause-cycle : goal.returns-in_err-visit_root-clause-cycle
returns-in_err-visit_root-clause-cycle c =
    let i : ℕ = c.loop-root.root-index in
    let root : ℕ = get_or c.args.roots.now i 0 in
    let here : slice_get c.args.roots.now i ≡ Some root = got_at c.args.roots.now i root 0 c.loop-root-test.true refl in
    let earlier = earlier_grounded c.args.graph.now c.loop-root.marks.items c.args.roots.now c.loop-root.order.items root i c.loop-root.invariant.walk here c.loop-root.invariant.met in
    let fault : IsCycleFault c.args.graph.now c.args.roots.now c.in_err-visit_root.field-0.0 = c.in_err-visit_root.ensures.cycle c.args.roots.now i earlier in
    search rules

pub loop-root-preserved : goal.loop-root-preserved
loop-root-preserved c =
    let i : ℕ = c.loop-root.root-index in
    let root : ℕ = get_or c.args.roots.now i 0 in
    let here : slice_get c.args.roots.now i ≡ Some root = got_at c.args.roots.now i root 0 c.loop-root-test.true refl in
    record {
      walk = c.in_ok-visit_root.ensures.visit.walk;
      stack = c.in_ok-visit_root.ensures.visit.empty;
      met = λ k a less got. below_more (λ k. (a : ℕ) → slice_get c.args.roots.now k ≡ Some a → IsMet c.visit_root.new.marks.items a) i
          (λ k less a got. c.in_ok-visit_root.ensures.visit.met a (c.loop-root.invariant.met k a less got))
          (λ a got. let same : root ≡ a = cc in rw (← same) c.in_ok-visit_root.ensures.visit.here)
          k less a got;
      only = c.in_ok-visit_root.ensures.visit.only c.args.roots.now (i, here) c.loop-root.invariant.only;
    }

pub returns-clause-arranged : goal.returns-clause-arranged
returns-clause-arranged c =
    let past : length c.args.roots.now ≤ c.loop-root.root-index = c.loop-root-test.false in
    arranged c.args.graph.now c.loop-root.marks.items c.args.roots.now c.loop-root.order.items c.loop-root.invariant.walk (λ k a got. c.loop-root.invariant.met k a (omega (arith, slice_get_within c.args.roots.now k a got, past)) got) c.loop-root.invariant.only
