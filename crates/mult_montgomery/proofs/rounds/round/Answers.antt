use Rattle.std.proofs.Common.{◌≡◌, ◌∙◌, ap, arith, length}
use Rattle.std.proofs.lemmas.Result.{IfOk-weaker, on_ok_weaker}
use Rattle.make_nets.specs.Row.{Row}
use Rattle.mult_montgomery.proofs.RoomLemmas.{round_few, round_is}
use Rattle.mult_montgomery.proofs.rounds.round.Goals as goal

pub divided_row-requires : goal.divided_row-requires
divided_row-requires c =
    let long : length c.as_slice.result.now ≡ length c.args.b.now = ap (λ v. length v) c.as_slice.ensures.value ∙ c.in_ok-sum.ensures.long in
    record {
      some = omega (arith, long, c.requires.some);
      small = omega (arith, long, c.requires.small);
      room = omega (arith, long, c.in_ok-sum.ensures.next, c.requires.room);
    }

pub returns : goal.returns
returns c =
    let long : length c.as_slice.result.now ≡ length c.args.b.now = ap (λ v. length v) c.as_slice.ensures.value ∙ c.in_ok-sum.ensures.long in
    let whole = (round_is (length c.args.b.now) c.args.modulus c.args.a.now c.args.b.now c.args.i c.args.before.now c.as_slice.result.now c.in_ok-sum.sum.items c.args.plan.now c.summed_row.new.plan c.as_slice.ensures.value c.in_ok-sum.ensures.long c.in_ok-sum.ensures.nets c.in_ok-sum.ensures.plan) in
    record {
      plan = on_ok_weaker c.divided_row.result (λ is. is ∙ ap (λ (row : Row). row.plan) whole) c.divided_row.ensures.plan;
      nets = IfOk-weaker c.divided_row.result _ _ (λ nets is. is ∙ ap (λ (row : Row). row.nets) whole) c.divided_row.ensures.nets;
      long = IfOk-weaker c.divided_row.result _ _ (λ nets is. is ∙ long) c.divided_row.ensures.long;
      next = on_ok_weaker c.divided_row.result (round_few (length c.args.b.now) (length c.as_slice.result.now) c.args.plan.now.next c.summed_row.new.plan.next c.divided_row.new.plan.next long c.in_ok-sum.ensures.next) c.divided_row.ensures.next;
    }
