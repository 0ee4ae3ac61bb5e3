use Rattle.std.proofs.Common.{◌≡◌, ◌-◌, ◌∙◌, ap, ap₂, refl, arith, length}
use Rattle.std.specs.Prelude.{slice_index}
use Rattle.make_nets.specs.Row.{Row, row_by, row_of, with_net}
use Rattle.mult_montgomery.specs.Montgomery.{divided_row, moved_net, moved_plan}
use Rattle.mult_montgomery.proofs.RoomLemmas.{moved_more}
use Rattle.mult_montgomery.proofs.rounds.divided_row.Goals as goal

pub moved-requires : goal.moved-requires
moved-requires c = record {
  place = omega (arith, c.loop-j-test.true);
  small = omega (arith, c.loop-j-test.true, c.requires.small);
  room = omega (arith, c.loop-j-test.true, c.loop-j.invariant.2, c.requires.room);
}

pub loop-j-preserved : goal.loop-j-preserved
loop-j-preserved c = (
  moved_more c.args.modulus c.args.sum.now c.loop-j.j c.args.plan.now c.loop-j.plan c.moved.new.plan c.loop-j.nets.items c.push.new.self.items c.in_ok-net.net c.loop-j.invariant.0 c.in_ok-net.ensures.plan c.in_ok-net.ensures.net c.in_ok-push.ensures.items,
  omega (arith, c.loop-j.invariant.1, c.in_ok-push.ensures.len),
  omega (arith, c.loop-j.invariant.2, c.in_ok-net.ensures.next),
)

pub returns : goal.returns
returns c =
    let count : c.loop-j.j ≡ length c.args.sum.now - 1 = omega (arith, c.requires.some) in
    let done : row_of c.loop-j.plan c.push-2.new.self.items ≡ divided_row (length c.args.sum.now) c.args.modulus (row_of c.args.plan.now c.args.sum.now) =
    ap₂ row_of refl c.in_ok-push-2.ensures.items
    ∙ ap (λ (row : Row). with_net (slice_index c.args.sum.now 0) row) (c.loop-j.invariant.0 ∙ ap (λ k. row_by k (moved_plan c.args.modulus c.args.sum.now) (moved_net c.args.modulus c.args.sum.now) c.args.plan.now) count) in
    record {
      plan = ap (λ (row : Row). row.plan) done;
      nets = ap (λ (row : Row). row.nets) done;
      long = omega (arith, c.in_ok-push-2.ensures.len, c.loop-j.invariant.1, count, c.requires.some);
      next = omega (arith, c.loop-j.invariant.2, count);
    }
