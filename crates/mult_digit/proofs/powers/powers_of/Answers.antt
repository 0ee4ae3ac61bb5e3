use Rattle.std.proofs.Common.{◌≡◌, ℕ, ◌<◌, ◌∙◌, arith, length-set, length}
use Rattle.std.proofs.Math.ListN.{length-replicate}
use Rattle.gf_field.proofs.SharedLemmas.{power_next}
use Rattle.gf_field.specs.Power.{power}
use Rattle.irreducible.proofs.MatrixLaws.{set_more}
use Rattle.mult_digit.proofs.PowerLemmas.{one_below}
use Rattle.mult_digit.proofs.powers.powers_of.Goals as goal

pub loop-i-init : goal.loop-i-init
unfolding power
loop-i-init g c = record {
  whole = length-replicate {A = ℕ} 128 0;
  element = one_below (g.R.Ring.degree c.args.ring.now) c.one-last.result c.one-last.ensures (g.met.R.Ring.laws c.args.ring.now).some;
  next = c.one-last.ensures;
  before = λ j h. absurd (omega arith);
}

pub loop-i-preserved : goal.loop-i-preserved
loop-i-preserved g c =
    let inv = c.loop-i.invariant in
    let room : c.loop-i.i < length c.loop-i.powers = omega (arith, inv.whole, c.loop-i-test.true) in
    record {
      whole = length-set c.loop-i.powers c.loop-i.i c.loop-i.last ∙ inv.whole;
      element = c.mul-last.ensures.element;
      next = power_next (g.R.Ring.product c.args.ring.now) c.args.x c.loop-i.i c.loop-i.last c.mul-last.result inv.next c.mul-last.ensures.product;
      before = set_more (λ j v. v ≡ power (g.R.Ring.product c.args.ring.now) c.args.x j) c.loop-i.powers c.loop-i.i c.loop-i.last room inv.before inv.next;
    }
