use Rattle.std.proofs.Common.{◌≡◌, ◌≤◌, ◌^◌, ◌∙◌, ap, arith}
use Rattle.net_words.specs.Variables.{variables}
use Rattle.net_words.proofs.VariableLemmas.{variables_short, each_ranked}
use Rattle.net_words.proofs.order.ordered.Goals as goal

pub ranks-requires : goal.ranks-requires
ranks-requires c =
    let count = c.nets-count.result in
    let few : count ≤ 2 ^ 20 = omega (arith, c.nets-count.ensures.count, c.nets-count.ensures.sound.inside.few_nets) in
    let is : c.in_ok-order.order.items ≡ variables count c.args.words.items = c.in_ok-order.ensures ∙ ap (variables count) c.deref.ensures.value in
    rw (c.deref-2.ensures.value, is) (variables_short count (record { k = c.args.k; words = c.args.words.items; feeds = c.args.feeds.items; nets = count }) few (rw (← c.nets-count.ensures.count) at c.requires))

pub of_parts-requires-clause-order : goal.of_parts-requires-clause-order
of_parts-requires-clause-order c =
    let count = c.nets-count.result in
    let is : c.in_ok-order.order.items ≡ variables count c.args.words.items = c.in_ok-order.ensures ∙ ap (variables count) c.deref.ensures.value in
    record {
      order_is = is;
      long = c.in_ok-ranks.ensures.long;
      ranked = each_ranked count c.args.words.items c.in_ok-order.order.items c.in_ok-ranks.ranks.items is (rw c.deref-2.ensures.value at c.in_ok-ranks.ensures.ranked);
    }
