use Rattle.std.proofs.Common.{◌≡◌, ℕ, ◌∙◌, ◌<◌, ◌^◌, arith, length-set, length}
use Rattle.std.proofs.Math.ListN.{length-replicate}
use Rattle.gf_field.specs.Power.{power}
use Rattle.gf_field.specs.laws.PowerLaws.{one_below}
use Rattle.gf_field.proofs.CopyLemmas.{zeros, set_rest}
use Rattle.gf_field.proofs.SharedLemmas.{power_next}
use Rattle.irreducible.proofs.MatrixLaws.{set_more}
use Rattle.gf_iso.proofs.matrices.powers.Goals as goal

pub loop-i-init : goal.loop-i-init
unfolding power
loop-i-init g c = record {
  whole = length-replicate {A = ℕ} 64 0;
  element = rw (c.one-power.ensures) (one_below _ _ (g.met.F.Ring.laws c.args.field.now));
  is = c.one-power.ensures;
  before = λ j h. absurd (omega arith);
  rest = λ j h. zeros 64 j;
  elements = λ j h. absurd (omega arith);
}

pub loop-i-preserved : goal.loop-i-preserved
loop-i-preserved g c =
    let inv = c.loop-i.invariant in
    let room : c.loop-i.i < length c.loop-i.all = omega (arith, c.requires.few, inv.whole) in
    record {
      whole = length-set c.loop-i.all c.loop-i.i c.loop-i.power ∙ inv.whole;
      element = c.by-power.ensures.element;
      is = power_next _ c.args.y c.loop-i.i c.loop-i.power _ inv.is (c.by-power.ensures.product c.args.y c.requires.element c.times-table.ensures.table);
      before = set_more (λ j x. x ≡ power (g.F.Ring.product c.args.field.now) c.args.y j) c.loop-i.all c.loop-i.i c.loop-i.power room inv.before inv.is;
      rest = set_rest c.loop-i.all c.loop-i.i c.loop-i.power inv.rest;
      elements = set_more (λ j x. x < 2 ^ g.F.Ring.degree c.args.field.now) c.loop-i.all c.loop-i.i c.loop-i.power room inv.elements inv.element;
    }
