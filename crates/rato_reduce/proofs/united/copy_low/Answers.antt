use Rattle.std.proofs.Common.{◌<◌, ℕ, List, length, refl, ◌∙◌, arith}
use Rattle.rato_reduce.proofs.LowLemmas.{none_copied, one_copied}
use Rattle.rato_reduce.proofs.united.copy_low.Goals as goal

pub loop-at-init : goal.loop-at-init
loop-at-init c = record {
  copied = none_copied c.args.bits.now c.args.from c.args.rank c.args.list.now.items;
  within = c.requires.place;
  few = refl;
  room = refl;
}

pub push_reserved-requires : goal.push_reserved-requires
push_reserved-requires c = omega (arith, c.loop-at-test.true, c.loop-at.invariant.few, c.loop-at.invariant.room, c.requires.room)

pub loop-at-preserved : goal.loop-at-preserved
loop-at-preserved c =
    let bits : List ℕ = c.args.bits.now in
    let at = c.loop-at.at in
    let put = c.push_reserved.ensures in
    let inside : at < length bits = c.loop-at-test.true in
    record {
      copied = one_copied bits c.args.from c.args.rank c.args.list.now.items at c.loop-at.list.items c.push_reserved.new.self.items c.loop-at.invariant.copied inside c.if-bits-at.true put.items;
      within = omega (arith, inside);
      few = omega (arith, inside, put.len, c.loop-at.invariant.few);
      room = put.capacity ∙ c.loop-at.invariant.room;
    }
