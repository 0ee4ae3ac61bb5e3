use Rattle.std.proofs.Common.{◌≡◌, ◌∙◌, ap, arith, None, length}
use Rattle.std.specs.Prelude.{slice_index}
use Rattle.make_nets.specs.Plan.{Plan, with_xor}
use Rattle.make_nets.specs.Row.{Row, xor_row, next_net, row_by, row_of}
use Rattle.make_nets.proofs.RowLemmas.{next_place}
use Rattle.make_nets.proofs.rows.xor_row.Goals as goal

pub loop-j-preserved : goal.loop-j-preserved
loop-j-preserved c = (
  next_place (λ j. with_xor None (slice_index c.args.first.now j) (slice_index c.args.second.now j)) c.args.plan.now c.loop-j.plan c.xor.new.self c.loop-j.nets.items c.push.new.self.items c.loop-j.j c.in_ok-net.net c.loop-j.invariant.0 c.in_ok-net.ensures.made c.in_ok-net.ensures.number c.in_ok-push.ensures.items,
  omega (arith, c.loop-j.invariant.1, c.in_ok-push.ensures.len),
  omega (arith, c.loop-j.invariant.2, ap (λ (p : Plan). p.next) c.in_ok-net.ensures.made),
)

pub returns : goal.returns
returns c =
    let count : c.loop-j.j ≡ length c.args.first.now = omega arith in
    let done : row_of c.loop-j.plan c.loop-j.nets.items ≡ xor_row (length c.args.first.now) c.args.first.now c.args.second.now c.args.plan.now = c.loop-j.invariant.0 ∙ ap (λ k. row_by k (λ j. with_xor None (slice_index c.args.first.now j) (slice_index c.args.second.now j)) next_net c.args.plan.now) count in
    record {
      plan = ap (λ (row : Row). row.plan) done;
      nets = ap (λ (row : Row). row.nets) done;
      long = c.loop-j.invariant.1 ∙ count;
      next = omega (arith, c.loop-j.invariant.2, count);
    }
