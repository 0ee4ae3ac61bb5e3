use Rattle.std.proofs.Common.{◌≡◌, ◌∙◌, ap, arith, length}
use Rattle.std.proofs.lemmas.Result.{IfOk-weaker, on_ok_weaker}
use Rattle.make_nets.specs.Row.{Row}
use Rattle.mult_montgomery.proofs.RoomLemmas.{summed_few, summed_is}
use Rattle.mult_montgomery.proofs.rounds.summed_row.Goals as goal

pub returns : goal.returns
returns c =
    let long : length c.args.before.now ≡ length c.args.b.now = c.requires.same (omega arith) in
    let summed = (summed_is (length c.args.b.now) c.args.a.now c.args.b.now c.args.i c.args.before.now c.as_slice.result.now c.in_ok-products.products.items c.args.plan.now c.and_row.new.plan c.if-i-eq0.false long c.as_slice.ensures.value c.in_ok-products.ensures.nets c.in_ok-products.ensures.plan) in
    record {
      plan = on_ok_weaker c.xor_row.result (λ is. is ∙ ap (λ (row : Row). row.plan) summed) c.xor_row.ensures.plan;
      nets = IfOk-weaker c.xor_row.result _ _ (λ nets is. is ∙ ap (λ (row : Row). row.nets) summed) c.xor_row.ensures.nets;
      long = IfOk-weaker c.xor_row.result _ _ (λ nets is. is ∙ long) c.xor_row.ensures.long;
      next = on_ok_weaker c.xor_row.result (summed_few (length c.args.b.now) (length c.args.before.now) c.args.plan.now.next c.and_row.new.plan.next c.xor_row.new.plan.next long c.in_ok-products.ensures.next) c.xor_row.ensures.next;
    }
