use Rattle.std.proofs.Common.{◌≡◌, ◌*◌, ◌-◌, ◌/◌, ◌%◌, ◌∙◌, ap, ap₂, arith, ℕ, List, None, length}
use Rattle.make_nets.specs.Plan.{chain_net, with_chain}
use Rattle.make_nets.specs.Row.{Row, row_of}
use Rattle.mult_composite.specs.Composite.{added_pairs, pair_sums}
use Rattle.mult_composite.proofs.ListLemmas.{row_done, row_more}
use Rattle.mult_composite.proofs.sums.pair_sums.Goals as goal

pub sum_of-requires : goal.sum_of-requires
sum_of-requires c = omega (arith, c.loop-p.invariant.2, c.loop-p-test.true, c.sum_count-count.ensures.most, c.requires.few, c.requires.room, ap (λ (v : List ℕ). length v) c.as_slice.ensures.value, c.in_ok-list.ensures.few)

pub loop-p-preserved : goal.loop-p-preserved
loop-p-preserved c =
    let n : ℕ = c.args.n in
    let m : ℕ = c.args.m in
    let list_is : c.as_slice.result.now ≡ added_pairs n m c.args.products.now (c.loop-p.p / n) (c.loop-p.p % n) = c.as_slice.ensures.value ∙ c.in_ok-list.ensures.list ∙ ap₂ (λ u v. added_pairs n m c.args.products.now u v) c.group_of-d.ensures.is c.bit_of.ensures.is in (
      row_more (λ p. with_chain None (added_pairs n m c.args.products.now (p / n) (p % n))) (λ p so_far. chain_net None (added_pairs n m c.args.products.now (p / n) (p % n)) so_far) c.loop-p.p c.args.plan.now c.loop-p.plan c.sum_of.new.plan c.loop-p.nets.items c.push.new.self.items c.in_ok-net.net
          c.loop-p.invariant.0 (c.in_ok-net.ensures.made ∙ ap (λ v. with_chain None v c.loop-p.plan) list_is) (c.in_ok-net.ensures.net ∙ ap (λ v. chain_net None v c.loop-p.plan) list_is) c.in_ok-push.ensures.items,
      omega (arith, c.loop-p.invariant.1, c.in_ok-push.ensures.len),
      omega (arith, c.loop-p.invariant.2, c.in_ok-net.ensures.next, ap (λ (v : List ℕ). length v) c.as_slice.ensures.value, c.in_ok-list.ensures.few, c.requires.few),
    )

pub returns : goal.returns
returns c =
    let n : ℕ = c.args.n in
    let m : ℕ = c.args.m in
    let count : c.loop-p.p ≡ (2 * m - 1) * n = omega (arith, c.sum_count-count.ensures.is) in
    let done : row_of c.loop-p.plan c.loop-p.nets.items ≡ pair_sums n m (row_of c.args.plan.now c.args.products.now) =
    row_done (λ p. with_chain None (added_pairs n m c.args.products.now (p / n) (p % n))) (λ p so_far. chain_net None (added_pairs n m c.args.products.now (p / n) (p % n)) so_far) c.loop-p.p ((2 * m - 1) * n) c.args.plan.now c.loop-p.plan c.loop-p.nets.items c.loop-p.invariant.0 count in
    record {
      made = ap (λ (row : Row). row.plan) done;
      nets = ap (λ (row : Row). row.nets) done;
      count = c.loop-p.invariant.1 ∙ count;
      next = omega (arith, c.loop-p.invariant.2, count, c.sum_count-count.ensures.is, c.sum_count-count.ensures.most);
    }
