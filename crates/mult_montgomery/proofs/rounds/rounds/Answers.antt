use Rattle.std.proofs.Common.{arith, length, ◌*◌, ◌∙◌, ap}
use Rattle.mult_montgomery.specs.Montgomery.{round}
use Rattle.make_nets.specs.Row.{row_of}
use Rattle.mult_montgomery.proofs.RoomLemmas.{round_more, round_room, rounds_more}
use Rattle.mult_montgomery.proofs.rounds.rounds.Goals as goal

pub round-requires : goal.round-requires
round-requires c = record {
  place = c.loop-i-test.true;
  same = λ some. ap (λ v. length v) c.as_slice.ensures.value ∙ c.loop-i.invariant.1 some;
  some = c.requires.some;
  small = c.requires.small;
  room = round_room c.loop-i.i (length c.args.b.now) c.args.plan.now.next c.loop-i.plan.next (omega (arith, c.loop-i-test.true, c.requires.same)) c.loop-i.invariant.2 c.requires.room;
}

pub loop-i-preserved : goal.loop-i-preserved
loop-i-preserved c =
    let k = length c.args.b.now in
    let old = c.loop-i.plan in (
      rounds_more k c.args.modulus c.args.a.now c.args.b.now c.loop-i.i c.args.plan.now old c.round.new.plan c.loop-i.row.items c.in_ok-row.row.items c.loop-i.invariant.0
          (c.in_ok-row.ensures.plan ∙ ap (λ nets. (round k c.args.modulus c.args.a.now c.args.b.now c.loop-i.i (row_of old nets)).plan) c.as_slice.ensures.value)
          (c.in_ok-row.ensures.nets ∙ ap (λ nets. (round k c.args.modulus c.args.a.now c.args.b.now c.loop-i.i (row_of old nets)).nets) c.as_slice.ensures.value),
      λ some. c.in_ok-row.ensures.long,
      round_more c.loop-i.i (3 * k) c.args.plan.now.next old.next c.round.new.plan.next c.loop-i.invariant.2 c.in_ok-row.ensures.next,
    )
